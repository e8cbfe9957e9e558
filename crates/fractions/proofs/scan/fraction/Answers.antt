use Rattle.std.proofs.Common.{◌*◌, ◌<◌, ◌≤◌, ◌%◌, refl, sym, subst, arith}
use Rattle.std.specs.Int.{IsGcd}
use Rattle.std.proofs.Math.Bool.{not-not}
use Rattle.std.proofs.lemmas.Nat.{mod_below}
use Rattle.std.proofs.lemmas.Nat.Gcd.{same_from_IsGcd}
use Rattle.fractions.specs.Fractions.{IsSmall, Stands}
use Rattle.fractions.proofs.SmallNumbers.{not_small, positive_rest}
use Rattle.fractions.proofs.Answering.{is_negative}
use Rattle.fractions.proofs.Standing.{stands_step}
use Rattle.fractions.proofs.EuclidStep.{next_whole, next_factor_within, next_factor_positive}
use Rattle.fractions.proofs.FirstSmall.{IsAtFirstSmall, is_rest}
use Rattle.fractions.proofs.scan.fraction.Goals.{then-not-is_small-via-then-not-is_small, then-not-is_small-via-else-not-is_small+then-greatest_divisor-ne1}
use Rattle.fractions.proofs.scan.fraction.Goals as goal

pub loop-quotient-preserved : goal.loop-quotient-preserved
loop-quotient-preserved c =
    let m = c.args.m in
    let before = c.loop-quotient.before in
    let rest = c.loop-quotient.rest in
    let factor_before = c.loop-quotient.factor_before in
    let factor = c.loop-quotient.factor in
    let kept = c.loop-quotient.invariant in
    let large : m ≤ 2 * (rest * rest) = not_small m rest (λ small. cc (c.loop-quotient-test.ensures.1 small)) in
    let some : 0 < rest = positive_rest m rest (omega arith) large in
    let below : before % rest < rest = mod_below before rest some in
    record {
      whole = next_whole m before rest factor_before factor kept.whole;
      large = large;
      falls = below;
      within = omega arith;
      factor_within = next_factor_within m before rest factor_before factor kept.whole some;
      positive = next_factor_positive m before rest factor_before factor kept.whole some kept.falls kept.positive;
      here = stands_step m c.args.c c.loop-quotient.negative before rest factor_before factor (omega arith) kept.here kept.earlier;
      earlier = subst (λ s. Stands m c.args.c s rest factor) (sym (not-not c.loop-quotient.negative)) kept.here;
    }

pub returns-then-not-is_small-clause-none : goal.returns-then-not-is_small-clause-none
returns-then-not-is_small-clause-none c = λ negative top bottom f.
    let m = c.args.m in
    let kept = c.loop-quotient.invariant in
    let scan : IsAtFirstSmall m c.loop-quotient.before c.loop-quotient.rest c.loop-quotient.factor_before c.loop-quotient.factor =
    record { whole = kept.whole; large = kept.large; small = c.loop-quotient-test.ensures.0 refl; positive = kept.positive } in
    let is = is_rest m c.loop-quotient.before c.loop-quotient.rest c.loop-quotient.factor_before c.loop-quotient.factor scan c.args.c c.loop-quotient.negative negative top bottom kept.here kept.earlier f in
    let factor_small : IsSmall m c.loop-quotient.factor = subst (IsSmall m) is.1 f.small_bottom in
    let one : IsGcd c.loop-quotient.rest c.loop-quotient.factor 1 =
    subst (λ x. IsGcd x c.loop-quotient.factor 1) is.0 (subst (λ x. IsGcd top x 1) is.1 f.reduced) in
    elim c.then-not-is_small.branch [
      | then-not-is_small-via-then-not-is_small w ↦ cc (w.if-not-is_small.ensures.1 factor_small)
      | then-not-is_small-via-else-not-is_small+then-greatest_divisor-ne1 w ↦ absurd
          (w.if-greatest_divisor-ne1.true (same_from_IsGcd c.loop-quotient.rest c.loop-quotient.factor _ 1 w.greatest_divisor.ensures one))
    ]

pub returns-then-negative-clause-some : goal.returns-then-negative-clause-some
returns-then-negative-clause-some c =
    let kept = c.loop-quotient.invariant in
    let reduced : IsGcd c.loop-quotient.rest c.loop-quotient.factor 1 =
    subst (λ g. IsGcd c.loop-quotient.rest c.loop-quotient.factor g) c.if-greatest_divisor-ne1.false c.greatest_divisor.ensures in
    is_negative c.args.m c.args.c c.loop-quotient.negative c.loop-quotient.rest c.loop-quotient.factor c.if-negative.true
    (c.loop-quotient-test.ensures.0 refl) (c.if-not-is_small.ensures.0 refl) kept.positive reduced kept.here

pub returns-else-negative-clause-some : goal.returns-else-negative-clause-some
returns-else-negative-clause-some c =
    let kept = c.loop-quotient.invariant in
    record {
      small_top = c.loop-quotient-test.ensures.0 refl;
      small_bottom = c.if-not-is_small.ensures.0 refl;
      divides = kept.positive;
      reduced = subst (λ g. IsGcd c.loop-quotient.rest c.loop-quotient.factor g) c.if-greatest_divisor-ne1.false c.greatest_divisor.ensures;
      stands = kept.here;
      unsigned_zero = λ _. c.if-negative.false;
    }
