use Rattle.std.proofs.Common.{◌≡◌, ◌-◌, ◌*◌, ◌≤◌}
use Rattle.zeta_model.specs.WordLists.{binomial, binomial_sum}
use Rattle.column_order.proofs.counting.count.Given as goal

abbrev pub invariant-loop-r : goal.invariant-loop-r
invariant-loop-r l = record {
  so_far : l.sum ≡ binomial_sum (l.w - 2) l.r;
  next : l.binomial ≡ binomial (l.w - 2) l.r;
  small : l.sum ≤ l.r * 4194304;
}
