use Rattle.std.proofs.Common.{◌≡◌, ◌≤◌, ◌*◌, take}
use Rattle.column_order.specs.LeadOrder.{rank_sum}
use Rattle.column_order.specs.Ranks.{rank_of}
use Rattle.column_order.proofs.rank_rule.RankRule.rank_sum.Given as goal

abbrev pub invariant-loop-i : goal.invariant-loop-i
invariant-loop-i g l = record {
  so_far : l.sum ≡ rank_sum (rank_of l.self.preference) (take l.i l.p);
  few : l.sum ≤ 2 * l.i;
}
