use Rattle.std.proofs.Common.{◌≡◌, ◌+◌, ◌-◌, ◌*◌, ◌<◌, [], length, get_or, sym, ap, subst, ◌∙◌, arith, mod-eq_of_lt}
use Rattle.std.proofs.lemmas.List.{get_or_default}
use Rattle.zeta_model.specs.Modular.{Same}
use Rattle.echelon.specs.Lists.{entries_of}
use Rattle.table_model.specs.MonomialWords.{sum_combination}
use Rattle.table_model.specs.ListedSpan.{values_of}
use Rattle.cert_checker.specs.Inner.{numbers_of, word_at, IsPlaced, AreValues}
use Rattle.cert_checker.proofs.Gaining.{same-negative}
use Rattle.cert_checker.proofs.SummingPlaces.{key_below, entry_in, summing-more, summing-end}
use Rattle.cert_checker.proofs.evaluating.take_values.Goals as goal

pub loop-entry-preserved : goal.loop-entry-preserved
loop-entry-preserved g c =
    let ring = c.ring.result.now in
    let r = g.met.R.Ring in
    let m = g.R.Ring.modulus ring in
    let columns = c.args.columns.now in
    let made = c.make_value.new.values.items in
    let n = c.in-Some.entry.now.0 in
    let a = c.in-Some.entry.now.1 in
    let kept_ring = c.loop-entry.invariant.ring in
    let values = subst (λ x. AreValues (g.R.Ring.modulus x) (g.R.Ring.has x) (g.R.Ring.value x) columns c.args.names.now made) kept_ring
    c.in_ok-make_value.ensures.values in
    let has_a = entry_in _ _ _ _ _ _ _ _ _ _ _ _ _ _ _ c.in-Some.ensures.cases.0 c.loop-entry.invariant.sums in
    let inside : n < length made =
    omega (arith, values.count, key_below _ _ _ _ _ _ _ _ _ _ _ _ _ _ _ c.in-Some.ensures.cases.0 c.loop-entry.invariant.sums) in
    let there : c.entries-value.result.now ≡ get_or made n [] =
    c.entries-value.ensures ∙ c.index.ensures ∙ get_or_default made n c.index.result.now [] inside in
    let of_value = subst (IsPlaced m (g.R.Ring.has ring) (g.R.Ring.value ring) columns (values_of m columns n)) (sym there)
    (subst (λ x. IsPlaced (g.R.Ring.modulus x) (g.R.Ring.has x) (g.R.Ring.value x) columns (values_of (g.R.Ring.modulus x) columns n) (get_or made n []))
    kept_ring c.in_ok-make_value.ensures.made) in
    let factor : Same m (g.R.Ring.value ring c.neg.result) ((m - 1) * g.R.Ring.value ring a) =
    same-negative m (g.R.Ring.value ring a) (g.R.Ring.value ring a) (g.R.Ring.value ring c.neg.result) (omega (arith, r.modulus_from ring))
    (sym (mod-eq_of_lt (r.value_below ring a has_a))) (ap (g.R.Ring.value ring) c.neg.ensures ∙ r.value_neg ring a has_a) in
    record {
      ring = c.in_ok-make_value.ensures.ring ∙ kept_ring;
      values = values;
      sums = summing-more _ _ _ _ _ _ _ _ _ _ _ _ _ _ _ c.in-Some.ensures.cases.0 c.loop-entry.invariant.sums c.entries-value.result.now c.neg.result _
          of_value factor c.add_entries.ensures.len c.add_entries.ensures.all c.add_entries.ensures.sum;
    }

pub returns-clause-sum : goal.returns-clause-sum
returns-clause-sum g c = λ q l.
    let ring = c.ring.result.now in
    subst (λ x. Same (g.R.Ring.modulus x) (numbers_of (g.R.Ring.total x) c.loop-entry.sums q) (numbers_of (g.R.Ring.total x) c.args.sums.now q
    + (g.R.Ring.modulus x - 1) * sum_combination (length c.args.names.now) (values_of (g.R.Ring.modulus x) c.args.columns.now)
    (entries_of (g.R.Ring.value x) c.args.combination.now) (word_at c.args.columns.now q))) c.ring.ensures
    (summing-end _ _ _ _ _ _ _ _ _ _ _ _ _ c.in_default.ensures.cases c.loop-entry.invariant.sums q l)
