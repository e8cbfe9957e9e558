use Rattle.std.proofs.Common.{◌≡◌, ◌+◌, ◌*◌, ◌%◌, ◌<◌, [], length, get_or, refl, ◌∙◌, ap, rules}
use Rattle.std.proofs.lemmas.List.{get_or_default}
use Rattle.echelon.specs.Lists.{entries_of}
use Rattle.echelon.specs.Inner.{numbers_of}
use Rattle.echelon.proofs.Remains.{rest_same, remaining_within, remaining_more, remaining_all}
use Rattle.echelon.proofs.standing.add_standing.Goals as goal

pub loop-entry-init : goal.loop-entry-init
loop-entry-init g c = record {
  below = c.requires.below;
  count = c.requires.columns;
  all_sums = c.requires.all;
  in_ring = c.requires.in_ring;
  same = λ rows stand. rest_same (g.R.Ring.modulus c.args.ring.now) (g.R.Ring.value c.args.ring.now) rows _ _ (λ col. refl);
}

pub add_entries-requires-clause-below : goal.add_entries-requires-clause-below
add_entries-requires-clause-below g c =
    let inside : c.from.result < length c.args.standing.now =
    rw c.from.ensures (remaining_within _ _ _ _ _ _ _ _ _ _ _ _ c.loop-entry.invariant c.in-Some.ensures.cases.0) in
    let is : c.entries-row.result.now ≡ get_or c.args.standing.now c.from.result [] =
    c.entries-row.ensures.entries ∙ c.index-standing-from.is
    ∙ get_or_default c.args.standing.now c.from.result c.index-standing-from.result [] inside in
    rw (is, c.loop-entry.invariant.count) (c.requires.within.below c.from.result inside)

pub add_entries-requires-clause-in_ring : goal.add_entries-requires-clause-in_ring
add_entries-requires-clause-in_ring g c =
    let inside : c.from.result < length c.args.standing.now =
    rw c.from.ensures (remaining_within _ _ _ _ _ _ _ _ _ _ _ _ c.loop-entry.invariant c.in-Some.ensures.cases.0) in
    let is : c.entries-row.result.now ≡ get_or c.args.standing.now c.from.result [] =
    c.entries-row.ensures.entries ∙ c.index-standing-from.is
    ∙ get_or_default c.args.standing.now c.from.result c.index-standing-from.result [] inside in
    rw is (c.requires.within.in_ring c.from.result inside)

pub loop-entry-preserved : goal.loop-entry-preserved
loop-entry-preserved g c =
    let value = g.R.Ring.value c.args.ring.now in
    let total = g.R.Ring.total c.args.ring.now in
    let inside : c.from.result < length c.args.standing.now =
    rw c.from.ensures (remaining_within _ _ _ _ _ _ _ _ _ _ _ _ c.loop-entry.invariant c.in-Some.ensures.cases.0) in
    let is : c.entries-row.result.now ≡ get_or c.args.standing.now c.in-Some.entry.now.0 [] =
    c.entries-row.ensures.entries ∙ c.index-standing-from.is ∙ get_or_default c.args.standing.now c.from.result c.index-standing-from.result [] inside
    ∙ ap (λ k. get_or c.args.standing.now k []) c.from.ensures in
    let count : length c.add_entries.new.sums ≡ length c.args.standing.now = search rules in
    remaining_more (g.R.Ring.modulus c.args.ring.now) total (g.R.Ring.is_sum c.args.ring.now)
    (g.R.Ring.has c.args.ring.now) value c.args.standing.now c.args.sums.now c.args.entries.now c.loop-entry.sums c.loop-entry.rest.now
    c.in-Some.behind.now c.in-Some.entry.now
    c.loop-entry.invariant c.in-Some.ensures.cases.0 c.add_entries.new.sums count c.add_entries.ensures.all
    (λ q. c.add_entries.ensures.sum q
    ∙ ap (λ es. (numbers_of total c.loop-entry.sums q + value c.in-Some.entry.now.1 * entries_of value es q) % g.R.Ring.modulus c.args.ring.now) is)

pub returns-clause-rest : goal.returns-clause-rest
returns-clause-rest g c = λ rows stand. remaining_all _ _ _ _ _ _ _ _ _ _ c.loop-entry.invariant c.in_default.ensures.cases rows stand
