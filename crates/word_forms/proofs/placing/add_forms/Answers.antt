use Rattle.std.proofs.Common.{◌≡◌, ◌+◌, ◌*◌, ◌%◌, ◌<◌, [], length, get_or, refl, sym, ap, subst, ◌∙◌, arith}
use Rattle.std.proofs.lemmas.List.{get_or_default}
use Rattle.word_sums.specs.Terms.{coefficient_of}
use Rattle.sparse_rows.specs.Entries.{IsBelow, AllIn}
use Rattle.echelon.specs.Lists.{row_at}
use Rattle.table_model.specs.Computed.{cols_by}
use Rattle.lyndon_polys.specs.Tables.{entries_of}
use Rattle.word_forms.specs.Inner.{numbers_of}
use Rattle.word_forms.proofs.PlacedWords.{place_within, word_form, word_nowhere, next_in, placing_next, placing_end}
use Rattle.word_forms.proofs.placing.add_forms.Goals as goal

pub bounds-forms-col : goal.bounds-forms-col
bounds-forms-col g c =
    let row = row_at (g.R.Ring.value c.args.ring.now) c.args.forms.now in
    let within = place_within c.args.columns.now.list row (g.R.Ring.modulus c.args.ring.now) c.in-Some.word.now c.place_of.result
    c.place_of.ensures.word c.in-Some-place_of.col c.in-Some-place_of.is in
    omega (arith, c.requires.forms.count, within)

pub add_entries-requires-clause-has_c : goal.add_entries-requires-clause-has_c
add_entries-requires-clause-has_c g c =
    next_in _ _ _ _ _ _ _ _ _ _ c.loop-word.word-iterator c.next.new.self c.in-Some.word.now c.in-Some.residue.now c.in-Some.ensures.steps
    c.loop-word.invariant

pub add_entries-requires-clause-below : goal.add_entries-requires-clause-below
add_entries-requires-clause-below g c =
    let col = c.in-Some-place_of.col in
    let forms = c.args.forms.now in
    let row = row_at (g.R.Ring.value c.args.ring.now) forms in
    let within = place_within c.args.columns.now.list row (g.R.Ring.modulus c.args.ring.now) c.in-Some.word.now c.place_of.result
    c.place_of.ensures.word col c.in-Some-place_of.is in
    let inside : col < length forms = omega (arith, c.requires.forms.count, within) in
    let entry : c.entries.result.now ≡ get_or forms col [] =
    c.entries.ensures.entries ∙ c.index-forms-col.is ∙ get_or_default forms col c.index-forms-col.result [] inside in
    subst (λ k. IsBelow (λ j. j) k c.entries.result.now) (sym (c.loop-word.invariant.len ∙ c.requires.len))
    (subst (IsBelow (λ j. j) (length c.args.columns.now.list)) (sym entry) (c.requires.forms.below col inside))

pub add_entries-requires-clause-in_ring : goal.add_entries-requires-clause-in_ring
add_entries-requires-clause-in_ring g c =
    let col = c.in-Some-place_of.col in
    let forms = c.args.forms.now in
    let row = row_at (g.R.Ring.value c.args.ring.now) forms in
    let within = place_within c.args.columns.now.list row (g.R.Ring.modulus c.args.ring.now) c.in-Some.word.now c.place_of.result
    c.place_of.ensures.word col c.in-Some-place_of.is in
    let inside : col < length forms = omega (arith, c.requires.forms.count, within) in
    let entry : c.entries.result.now ≡ get_or forms col [] =
    c.entries.ensures.entries ∙ c.index-forms-col.is ∙ get_or_default forms col c.index-forms-col.result [] inside in
    subst (AllIn (g.R.Ring.has c.args.ring.now)) (sym entry) (c.requires.forms.in_ring col inside)

pub loop-word-preserved-in-Some-place_of : goal.loop-word-preserved-in-Some-place_of
loop-word-preserved-in-Some-place_of g c =
    let ring = c.args.ring.now in
    let m = g.R.Ring.modulus ring in
    let value = g.R.Ring.value ring in
    let total = g.R.Ring.total ring in
    let list = c.args.columns.now.list in
    let forms = c.args.forms.now in
    let row = row_at value forms in
    let col = c.in-Some-place_of.col in
    let w = c.in-Some.word.now in
    let a = c.in-Some.residue.now in
    let sums = c.loop-word.sums in
    let within = place_within list row m w c.place_of.result c.place_of.ensures.word col c.in-Some-place_of.is in
    let inside : col < length forms = omega (arith, c.requires.forms.count, within) in
    let entry : c.entries.result.now ≡ get_or forms col [] =
    c.entries.ensures.entries ∙ c.index-forms-col.is ∙ get_or_default forms col c.index-forms-col.result [] inside in
    placing_next m (g.R.Ring.has ring) value (g.R.Ring.is_sum ring) total list row c.args.sums.now c.into_iter-word-iterator.result sums
    c.loop-word.word-iterator c.next.new.self w a c.in-Some.ensures.steps c.loop-word.invariant c.add_entries.new.sums (row col)
    c.add_entries.ensures.len c.add_entries.ensures.all
    (λ q. c.add_entries.ensures.sum q ∙ ap (λ es. (numbers_of total sums q + value a * entries_of value es q) % m) entry)
    (λ q. word_form list row m w c.place_of.result c.place_of.ensures.word col q c.in-Some-place_of.is)

pub loop-word-preserved : goal.loop-word-preserved
loop-word-preserved g c =
    let ring = c.args.ring.now in
    let m = g.R.Ring.modulus ring in
    let value = g.R.Ring.value ring in
    let total = g.R.Ring.total ring in
    let list = c.args.columns.now.list in
    let row = row_at value c.args.forms.now in
    let w = c.in-Some.word.now in
    let a = c.in-Some.residue.now in
    let sums = c.loop-word.sums in
    placing_next m (g.R.Ring.has ring) value (g.R.Ring.is_sum ring) total list row c.args.sums.now c.into_iter-word-iterator.result sums
    c.loop-word.word-iterator c.next.new.self w a c.in-Some.ensures.steps c.loop-word.invariant sums (λ _. 0) refl c.loop-word.invariant.all_sums
    (λ q. ap (λ x. x % m) (let e : numbers_of total sums q ≡ numbers_of total sums q + value a * 0 = omega arith in e))
    (λ q. word_nowhere list row m w c.place_of.result c.place_of.ensures.word q c.in_default.is)

pub returns-clause-sum : goal.returns-clause-sum
returns-clause-sum g c q =
    let ring = c.args.ring.now in
    let m = g.R.Ring.modulus ring in
    let value = g.R.Ring.value ring in
    let total = g.R.Ring.total ring in
    let list = c.args.columns.now.list in
    let row = row_at value c.args.forms.now in
    placing_end m (g.R.Ring.has ring) value (g.R.Ring.is_sum ring) total list row c.args.sums.now c.into_iter-word-iterator.result c.loop-word.sums
    c.loop-word.word-iterator c.in-None.ensures.steps.0 c.loop-word.invariant q
    ∙ ap (λ es. (numbers_of total c.args.sums.now q + cols_by list row (coefficient_of value es) q) % m)
    (c.into_iter-word-iterator.ensures.into_iter_gives ∙ c.iter-word-items.ensures.rest)
