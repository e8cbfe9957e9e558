use Rattle.std.proofs.Common.{◌+◌, ◌%◌, ◌≤◌, length, sym, subst, ap, ◌∙◌, arith}
use Rattle.std.specs.Prelude.{All}
use Rattle.std.specs.Map.{keys_of}
use Rattle.zeta_model.specs.Alphabets.{shuffle_of}
use Rattle.zeta_model.specs.Sums.{scaled, sum_of, numbered, continued}
use Rattle.word_sums.specs.Terms.{coefficient_of, AllIn}
use Rattle.word_sums.specs.Sums.{Gains}
use Rattle.word_sums.proofs.SumLemmas.{IsSum-none, IsSumOf-gained}
use Rattle.quasi_product.proofs.GainLemmas.{gains_same}
use Rattle.quasi_product.proofs.SumProductLemmas.{Gaining-start, Gaining-next, Gaining-end, Gaining-has, Gaining-is}
use Rattle.kept_products.proofs.values.times_word.Goals as goal

pub loop-w-init : goal.loop-w-init
loop-w-init g c =
    let all = sym (c.into_iter-w-iterator.ensures.into_iter_gives ∙ c.iter-w-items.ensures.rest) in
    record {
      kept = c.requires.kept;
      gaining = Gaining-start _ _ _ _ _ _ _ _ _ (IsSum-none g.R.Ring.zero (g.R.Ring.has c.args.ring.now) c.in_ok-sum.sum c.in_ok-sum.ensures)
          (subst (AllIn (g.R.Ring.has c.args.ring.now)) all c.requires.in_ring)
          (subst (λ es. All (λ w. length w + length c.args.u ≤ 24) (keys_of es)) all c.requires.fits);
    }

pub add_kept-requires-clause-has_c : goal.add_kept-requires-clause-has_c
add_kept-requires-clause-has_c g c =
    Gaining-has _ _ _ _ _ _ _ _ _ _ c.in-Some.w.now c.in-Some.c.now c.loop-w.w-iterator c.next.new.self c.in-Some.ensures.steps
    c.loop-w.invariant.gaining

pub add_kept-requires-clause-fits : goal.add_kept-requires-clause-fits
add_kept-requires-clause-fits g c =
    Gaining-is _ _ _ _ _ _ _ _ _ _ c.in-Some.w.now c.in-Some.c.now c.loop-w.w-iterator c.next.new.self c.in-Some.ensures.steps
    c.loop-w.invariant.gaining

pub loop-w-preserved : goal.loop-w-preserved
loop-w-preserved g c =
    let m = g.R.Ring.modulus c.args.ring.now in
    let value = g.R.Ring.value c.args.ring.now in
    let w = c.in-Some.w.now in
    record {
      kept = c.in_ok-add_kept.ensures.kept;
      gaining = Gaining-next _ _ _ _ _ _ _ _ _ _ w c.in-Some.c.now c.loop-w.w-iterator c.next.new.self c.add_kept.new.sum
          (scaled (value c.in-Some.c.now) (sum_of (shuffle_of w c.args.u)))
          c.in-Some.ensures.steps c.loop-w.invariant.gaining c.in_ok-add_kept.ensures.sum c.in_ok-add_kept.ensures.ok
          (λ t. ap (λ n. n % m) (omega arith));
    }

pub returns-clause-value : goal.returns-clause-value
returns-clause-value g c =
    let ring = c.args.ring.now in
    let m = g.R.Ring.modulus ring in
    let value = g.R.Ring.value ring in
    IsSumOf-gained g.R.Ring.zero (g.R.Ring.has ring) value m c.in_ok-sum.sum c.loop-w.sum (continued (λ w. sum_of (shuffle_of w c.args.u)) (numbered value c.args.factor.now))
    c.in_ok-sum.ensures c.loop-w.invariant.gaining.now_is
    (gains_same _ _ _ _ _ (λ t. omega arith)
    (subst (λ es. Gains m (coefficient_of value c.in_ok-sum.sum) (coefficient_of value c.loop-w.sum)
    (scaled 1 (continued (λ w. sum_of (shuffle_of w c.args.u)) (numbered value es))))
    (c.into_iter-w-iterator.ensures.into_iter_gives ∙ c.iter-w-items.ensures.rest)
    (Gaining-end _ _ _ _ _ _ _ _ _ _ c.loop-w.w-iterator (omega (arith, g.met.R.Ring.modulus_from ring)) (g.met.R.Ring.value_below ring)
    c.in-None.ensures.steps.0 c.loop-w.invariant.gaining)))
