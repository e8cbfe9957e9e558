use Rattle.std.proofs.Common.{◌≡◌, ◌+◌, ◌-◌, ◌*◌, ◌/◌, ◌≤◌, sym, ap, ◌∙◌, arith}
use Rattle.std.proofs.Math.Nat.{mul-le-mul}
use Rattle.zeta_model.specs.WordLists.{binomial_sum}
use Rattle.column_order.proofs.BinomialSums.{binomial-none, binomial_sum-none, binomial_sum-next, binomial-next, binomial-le}
use Rattle.column_order.proofs.ColumnLists.{length-columns}
use Rattle.column_order.proofs.counting.count.Goals as goal

pub loop-r-init : goal.loop-r-init
loop-r-init c = record {
  so_far = sym (binomial_sum-none (c.args.w - 2));
  next = sym (binomial-none (c.args.w - 2));
  small = omega arith;
}

pub overflow_add-sum : goal.overflow_add-sum
overflow_add-sum c = omega (
  arith,
  c.loop-r.invariant.small,
  c.loop-r.invariant.next,
  binomial-le (c.args.w - 2) c.loop-r.r
      (omega (arith, c.requires.most)),
  c.loop-r-test.true,
  c.requires.below,
  c.requires.most,
)

pub overflow_mul-binomial : goal.overflow_mul-binomial
overflow_mul-binomial c =
    let small : c.loop-r.binomial ≤ 4194304 =
    omega (arith, c.loop-r.invariant.next, binomial-le (c.args.w - 2) c.loop-r.r (omega (arith, c.requires.most))) in
    let few : c.args.w - 2 - c.loop-r.r ≤ 24 = omega (arith, c.requires.most) in
    omega (arith, mul-le-mul small few)

pub loop-r-preserved : goal.loop-r-preserved
loop-r-preserved c =
    let small : c.loop-r.binomial ≤ 4194304 =
    omega (arith, c.loop-r.invariant.next, binomial-le (c.args.w - 2) c.loop-r.r (omega (arith, c.requires.most))) in
    record {
      so_far = omega (arith, c.loop-r.invariant.so_far, c.loop-r.invariant.next, binomial_sum-next (c.args.w - 2) c.loop-r.r);
      next = ap (λ t. t * (c.args.w - 2 - c.loop-r.r) / (c.loop-r.r + 1)) c.loop-r.invariant.next
          ∙ binomial-next (c.args.w - 2) c.loop-r.r (omega (arith, c.loop-r-test.true, c.requires.below));
      small = omega (arith, c.loop-r.invariant.small);
    }

pub returns-clause-columns : goal.returns-clause-columns
returns-clause-columns c = λ ranks list l.
    let end : c.loop-r.r ≡ c.args.d = omega (arith, c.loop-r-test.false, c.loop-r.auto.r-end) in
    length-columns ranks c.args.w c.args.d list c.requires.least c.requires.most c.requires.some l ∙ ap (binomial_sum (c.args.w - 2)) (sym end)
    ∙ sym c.loop-r.invariant.so_far
