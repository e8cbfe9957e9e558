use Rattle.std.proofs.Common.{◌≡◌, ◌+◌, ◌*◌, ◌-◌, ◌%◌, ◌<◌, [], length, get_or, true, refl, sym, ◌∙◌, ap, subst, arith, rules, mod-eq_of_lt}
use Rattle.std.proofs.lemmas.List.{get_or_default}
use Rattle.zeta_model.specs.Modular.{Same}
use Rattle.sparse_rows.specs.Entries.{AllIn}
use Rattle.echelon.specs.Lists.{entries_of, lead_at}
use Rattle.echelon.specs.Inner.{numbers_of}
use Rattle.echelon.proofs.Leads.{undone_by_opposite}
use Rattle.echelon.proofs.AtLeads.{cancelling_none, cancelling_at, cancelling_other, cancelled_all}
use Rattle.echelon.proofs.remainder.cancel_at_leads.Goals as goal

pub loop-entry-init : goal.loop-entry-init
loop-entry-init g c = record {
  count = refl;
  all = c.requires.all;
  in_ring = c.requires.in_ring;
  cancelling = cancelling_none (g.R.Ring.modulus c.args.ring.now) (g.R.Ring.value c.args.ring.now) c.args.rows.now c.args.entries.now
      (numbers_of (g.R.Ring.total c.args.ring.now) c.args.sums.now) c.requires.same;
}

pub add_entries-requires-clause-has_c : goal.add_entries-requires-clause-has_c
add_entries-requires-clause-has_c g c =
    let ring = c.args.ring.now in
    ap (g.R.Ring.has ring) c.neg.ensures
    ∙ g.met.R.Ring.has_neg ring c.in-Some.entry.now.1 (subst (AllIn (g.R.Ring.has ring)) c.in-Some.ensures.cases.0 c.loop-entry.invariant.in_ring).0

pub loop-entry-preserved-in-Some-place_at : goal.loop-entry-preserved-in-Some-place_at
loop-entry-preserved-in-Some-place_at g c =
    let ring = c.args.ring.now in
    let m = g.R.Ring.modulus ring in
    let value = g.R.Ring.value ring in
    let total = g.R.Ring.total ring in
    let rows = c.args.rows.now in
    let a = c.in-Some.entry.now.1 in
    let place = c.in-Some-place_at.place in
    let pos : 0 < m = omega (arith, g.met.R.Ring.modulus_from ring) in
    let inside : place < length rows = c.in-Some-place_at.ensures.found.0 in
    let leads : lead_at rows place ≡ c.in-Some.entry.now.0 = c.in-Some-place_at.ensures.found.1 ∙ c.from.ensures in
    let row_is : c.entries-row.result.now ≡ get_or rows place [] =
    c.entries-row.ensures.entries ∙ c.index-rows-place.is ∙ get_or_default rows place c.index-rows-place.result [] inside in
    let a_in : g.R.Ring.has ring a ≡ true = (subst (AllIn (g.R.Ring.has ring)) c.in-Some.ensures.cases.0 c.loop-entry.invariant.in_ring).0 in
    let undone : Same m (value a + value c.neg.result) 0 =
    undone_by_opposite m (value a) (value c.neg.result) pos (ap value c.neg.ensures ∙ g.met.R.Ring.value_neg ring a a_in
    ∙ ap (λ x. (m - x) % m) (sym (mod-eq_of_lt (g.met.R.Ring.value_below ring a a_in)))) in
    record {
      count = search rules;
      all = c.add_entries.ensures.all;
      in_ring = (subst (AllIn (g.R.Ring.has ring)) c.in-Some.ensures.cases.0 c.loop-entry.invariant.in_ring).1;
      cancelling = cancelling_at m value rows pos c.requires.reduced c.args.entries.now c.loop-entry.rest.now c.in-Some.behind.now c.in-Some.entry.now
          (numbers_of total c.loop-entry.sums) c.loop-entry.invariant.cancelling c.in-Some.ensures.cases.0
          place (value c.neg.result) (numbers_of total c.add_entries.new.sums) inside leads undone
          (λ q. c.add_entries.ensures.sum q ∙ ap (λ es. (numbers_of total c.loop-entry.sums q + value c.neg.result * entries_of value es q) % m) row_is);
    }

pub loop-entry-preserved : goal.loop-entry-preserved
loop-entry-preserved g c =
    let ring = c.args.ring.now in
    record {
      count = c.loop-entry.invariant.count;
      all = c.loop-entry.invariant.all;
      in_ring = (subst (AllIn (g.R.Ring.has ring)) c.in-Some.ensures.cases.0 c.loop-entry.invariant.in_ring).1;
      cancelling = cancelling_other (g.R.Ring.modulus ring) (g.R.Ring.value ring) c.args.rows.now
          (omega (arith, g.met.R.Ring.modulus_from ring)) c.requires.reduced c.args.entries.now c.loop-entry.rest.now c.in-Some.behind.now c.in-Some.entry.now
          (numbers_of (g.R.Ring.total ring) c.loop-entry.sums) c.loop-entry.invariant.cancelling c.in-Some.ensures.cases.0
          (λ i l e. c.in_default-place_at.ensures.none i l (e ∙ sym c.from.ensures));
    }

pub returns-clause-remainder : goal.returns-clause-remainder
returns-clause-remainder g c =
    let ring = c.args.ring.now in
    cancelled_all (g.R.Ring.modulus ring) (g.R.Ring.value ring) c.args.rows.now
    (omega (arith, g.met.R.Ring.modulus_from ring)) c.requires.reduced c.args.entries.now
    (numbers_of (g.R.Ring.total ring) c.loop-entry.sums) c.loop-entry.rest.now
    c.loop-entry.invariant.cancelling c.in_default.ensures.cases
