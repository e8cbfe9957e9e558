use Rattle.std.proofs.Common.{◌≡◌, ◌%◌, Result, Ok, Err, sym, ap, subst, ◌∙◌, arith}
use Rattle.std.specs.Prelude.{MatchResult, OnOk}
use Rattle.std.specs.Result.{IsErrAnd}
use Rattle.std.specs.Map.{keys_of}
use Rattle.zeta_model.specs.Sums.{numbered, scaled}
use Rattle.zeta_model.specs.Regularise.{reg_of, reg_of_sum}
use Rattle.zeta_model.specs.Words.{has_index}
use Rattle.word_sums.specs.Failing.{IsLeast}
use Rattle.word_sums.specs.Sums.{Gains}
use Rattle.word_sums.specs.Terms.{coefficient_of, AllIn}
use Rattle.word_sums.proofs.LeastWords.{IsLeast-one, all_pass}
use Rattle.word_sums.proofs.SumLemmas.{IsSum-none, IsSumOf-gained}
use Rattle.quasi_product.proofs.GainLemmas.{gains_same}
use Rattle.quasi_product.proofs.SumProductLemmas.{Gaining-start, Gaining-next, Gaining-has, Gaining-end}
use Rattle.regularise_core.specs.declared.fault.RegFault.TheVariants.{NotInH1}
use Rattle.regularise_core.specs.Outside.{outside_h1}
use Rattle.regularise_core.proofs.regularise.reg.Goals as goal

-- where the value after `map_err` is Ok, the one before it was
was_ok : {T E F : Type 0} (P : Type 0) (R : E → F → Type 0) (r : Result T E) (q : Result T F) (x : T) → MatchResult r (λ y. q ≡ Ok y) (λ e. IsErrAnd q (R e))
    → q ≡ Ok x → OnOk r P → P
was_ok P R (Ok y) q x cases is p = p
was_ok P R (Err e) q x cases is p = absurd (subst (λ o. IsErrAnd o (R e)) is cases)

pub returns-in-Some-clause-not_in_h1 : goal.returns-in-Some-clause-not_in_h1
returns-in-Some-clause-not_in_h1 g c w = (
  (λ e. let same : c.in-Some.word ≡ w = cc in subst (IsLeast (outside_h1 c.args.s.now)) same c.in-Some.ensures),
  (λ l. ap (λ v. Err (NotInH1 v)) (IsLeast-one (outside_h1 c.args.s.now) c.in-Some.word w c.in-Some.ensures l)),
)

pub loop-word-init : goal.loop-word-init
loop-word-init g c =
    let ring = c.args.ring.now in
    let same = sym (c.into_iter-word-iterator.ensures.into_iter_gives ∙ c.iter-word-items.ensures.rest) in
    Gaining-start _ _ _ _ _ _ _ _ _ (IsSum-none g.R.Ring.zero (g.R.Ring.has ring) c.new-sum.result c.new-sum.ensures)
    (subst (AllIn (g.R.Ring.has ring)) same c.requires.in_ring) (λ k d h. tt)

pub add_regularised-requires-clause-has_c : goal.add_regularised-requires-clause-has_c
add_regularised-requires-clause-has_c g c =
    Gaining-has _ _ _ _ _ _ _ _ _ _ c.in-Some-2.word.now c.in-Some-2.residue.now c.loop-word.word-iterator c.next.new.self c.in-Some-2.ensures.steps
    c.loop-word.invariant

pub loop-word-preserved : goal.loop-word-preserved
loop-word-preserved g c =
    let ring = c.args.ring.now in
    let m = g.R.Ring.modulus ring in
    let value = g.R.Ring.value ring in
    Gaining-next _ _ _ _ _ _ _ _ _ _ c.in-Some-2.word.now c.in-Some-2.residue.now c.loop-word.word-iterator c.next.new.self c.add_regularised.new.sum
    (scaled (value c.in-Some-2.residue.now) (reg_of m c.in-Some-2.word.now))
    c.in-Some-2.ensures.steps c.loop-word.invariant
    (was_ok _ _ c.add_regularised.result c.map_err.result c.in_ok-map_err.field-0 c.map_err.ensures.cases c.in_ok-map_err.was c.add_regularised.ensures.sum)
    (was_ok _ _ c.add_regularised.result c.map_err.result c.in_ok-map_err.field-0 c.map_err.ensures.cases c.in_ok-map_err.was c.add_regularised.ensures.ok)
    (λ t. ap (λ n. n % m) (omega arith))

pub returns-clause-value : goal.returns-clause-value
returns-clause-value g c =
    let ring = c.args.ring.now in
    let m = g.R.Ring.modulus ring in
    let value = g.R.Ring.value ring in
    IsSumOf-gained g.R.Ring.zero (g.R.Ring.has ring) value m c.new-sum.result c.loop-word.sum
    (reg_of_sum m (numbered value c.args.s.now)) c.new-sum.ensures c.loop-word.invariant.now_is
    (gains_same _ _ _ _ _ (λ t. omega arith)
    (subst (λ es. Gains m (coefficient_of value c.new-sum.result) (coefficient_of value c.loop-word.sum) (scaled 1 (reg_of_sum m (numbered value es))))
    (c.into_iter-word-iterator.ensures.into_iter_gives ∙ c.iter-word-items.ensures.rest)
    (Gaining-end _ _ _ _ _ _ _ _ _ _ c.loop-word.word-iterator (omega (arith, g.met.R.Ring.modulus_from ring))
    (g.met.R.Ring.value_below ring) c.in-None.ensures.steps.0 c.loop-word.invariant)))

pub returns-clause-has_index : goal.returns-clause-has_index
returns-clause-has_index g c = all_pass has_index (keys_of c.args.s.now) c.in_default.ensures
