use Rattle.std.proofs.Common.{◌≡◌, ℕ, ◌+◌, ◌%◌, length, ◌∙◌, ap, arith}
use Rattle.linear_model.specs.Rows.{combination}
use Rattle.linear_model.proofs.Spans.{same-combination}
use Rattle.echelon.specs.Lists.{entries_of, row_at}
use Rattle.echelon.specs.Inner.{numbers_of}
use Rattle.echelon.specs.Offers.{used_at}
use Rattle.echelon.proofs.evaluating.evaluated.Goals as goal

pub returns-clause-evaluated : goal.returns-clause-evaluated
returns-clause-evaluated g c =
    let ring = c.args.ring.now in
    let m = g.R.Ring.modulus ring in
    let value = g.R.Ring.value ring in
    let rows = row_at value c.args.combinations.now in
    let n = length c.args.combinations.now in
    let factors_is : c.deref.result.now ≡ c.in_ok-factors.factors.items = c.deref.ensures.value in
    let none : (q : ℕ) → entries_of value c.zero.result q ≡ 0 = λ q. ap (λ es. entries_of value es q) c.zero.ensures in
    λ q.
    c.in_ok-sum.ensures.sum q
    ∙ ap (λ x. x % m) ((λ i. none q i + combination n rows (numbers_of value (factors_is i)) q)
    ∙ (let e : 0 + combination n rows (numbers_of value c.in_ok-factors.factors.items) q
    ≡ combination n rows (numbers_of value c.in_ok-factors.factors.items) q = omega arith in e))
    ∙ same-combination m n rows (numbers_of value c.in_ok-factors.factors.items) (used_at value c.args.numbers.now c.args.uses.now)
    (λ i l. ap (λ x. x % m) (c.in_ok-factors.ensures.at i (omega (arith, c.requires.count)))) q
