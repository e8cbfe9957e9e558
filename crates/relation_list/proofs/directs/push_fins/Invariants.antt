use Rattle.std.proofs.Common.{◌≡◌, ◌-◌, ◌≤◌, ◌++◌, filter}
use Rattle.std.specs.List.{flat_map, range_with_len}
use Rattle.relation_list.specs.Listings.{fins_from}
use Rattle.relation_list.specs.Inner.{direct_within}
use Rattle.relation_list.proofs.directs.push_fins.Given as goal

abbrev pub invariant-loop-k : goal.invariant-loop-k
invariant-loop-k l = record {
  made : l.names.items ≡ l.fn.names.items ++ flat_map (λ k. filter (direct_within l.d) (fins_from l.w k)) (range_with_len 1 (l.k - 1));
  within : l.k - 1 ≤ l.w - 1;
}
