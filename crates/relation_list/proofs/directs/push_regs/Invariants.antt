use Rattle.std.proofs.Common.{◌≡◌, ◌-◌, ◌≤◌, ◌++◌, filter}
use Rattle.std.specs.List.{flat_map, range_with_len}
use Rattle.relation_list.specs.Listings.{regs_from}
use Rattle.relation_list.specs.Inner.{direct_within}
use Rattle.relation_list.proofs.directs.push_regs.Given as goal

abbrev pub invariant-loop-m : goal.invariant-loop-m
invariant-loop-m l = record {
  made : l.names.items ≡ l.fn.names.items ++ flat_map (λ k. filter (direct_within l.d) (regs_from l.w k)) (range_with_len 1 (l.m - 1));
  within : l.m - 1 ≤ l.w - 1;
}
