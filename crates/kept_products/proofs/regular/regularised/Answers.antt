use Rattle.std.proofs.Common.{◌%◌, sym, ap, subst, ◌∙◌, arith}
use Rattle.zeta_model.specs.Sums.{numbered, scaled}
use Rattle.zeta_model.specs.Regularise.{reg_of, reg_of_sum}
use Rattle.word_sums.specs.Sums.{Gains}
use Rattle.word_sums.specs.Terms.{coefficient_of, AllIn}
use Rattle.word_sums.proofs.SumLemmas.{IsSum-none, IsSumOf-gained}
use Rattle.quasi_product.proofs.GainLemmas.{gains_same}
use Rattle.quasi_product.proofs.SumProductLemmas.{Gaining-start, Gaining-next, Gaining-has, Gaining-end}
use Rattle.kept_products.proofs.regular.regularised.Goals as goal

pub loop-word-init : goal.loop-word-init
loop-word-init g c =
    let ring = c.args.ring.now in
    let same = sym (c.into_iter-word-iterator.ensures.into_iter_gives ∙ c.iter-word-items.ensures.rest) in
    record {
      kept = c.requires.kept;
      gaining = Gaining-start _ _ _ _ _ _ _ _ _ (IsSum-none g.R.Ring.zero (g.R.Ring.has ring) c.in_ok-sum.sum c.in_ok-sum.ensures)
          (subst (AllIn (g.R.Ring.has ring)) same c.requires.in_ring) (λ k d h. tt);
    }

pub add_regularised-requires-clause-has_c : goal.add_regularised-requires-clause-has_c
add_regularised-requires-clause-has_c g c =
    Gaining-has _ _ _ _ _ _ _ _ _ _ c.in-Some.word.now c.in-Some.residue.now c.loop-word.word-iterator c.next.new.self c.in-Some.ensures.steps
    c.loop-word.invariant.gaining

pub loop-word-preserved : goal.loop-word-preserved
loop-word-preserved g c =
    let ring = c.args.ring.now in
    let m = g.R.Ring.modulus ring in
    let value = g.R.Ring.value ring in
    record {
      kept = c.in_ok-add_regularised.ensures.kept;
      gaining = Gaining-next _ _ _ _ _ _ _ _ _ _ c.in-Some.word.now c.in-Some.residue.now c.loop-word.word-iterator c.next.new.self
          c.add_regularised.new.sum (scaled (value c.in-Some.residue.now) (reg_of m c.in-Some.word.now))
          c.in-Some.ensures.steps c.loop-word.invariant.gaining c.in_ok-add_regularised.ensures.sum c.in_ok-add_regularised.ensures.ok
          (λ t. ap (λ n. n % m) (omega arith));
    }

pub returns-clause-value : goal.returns-clause-value
returns-clause-value g c =
    let ring = c.args.ring.now in
    let m = g.R.Ring.modulus ring in
    let value = g.R.Ring.value ring in
    IsSumOf-gained g.R.Ring.zero (g.R.Ring.has ring) value m c.in_ok-sum.sum c.loop-word.sum
    (reg_of_sum m (numbered value c.args.s.now)) c.in_ok-sum.ensures c.loop-word.invariant.gaining.now_is
    (gains_same _ _ _ _ _ (λ t. omega arith)
    (subst (λ es. Gains m (coefficient_of value c.in_ok-sum.sum) (coefficient_of value c.loop-word.sum) (scaled 1 (reg_of_sum m (numbered value es))))
    (c.into_iter-word-iterator.ensures.into_iter_gives ∙ c.iter-word-items.ensures.rest)
    (Gaining-end _ _ _ _ _ _ _ _ _ _ c.loop-word.word-iterator (omega (arith, g.met.R.Ring.modulus_from ring))
    (g.met.R.Ring.value_below ring) c.in-None.ensures.steps.0 c.loop-word.invariant.gaining)))
