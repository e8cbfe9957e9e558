use Rattle.std.proofs.Common.{◌≡◌, ◌-◌, ◌≤◌, ◌++◌, take, map, filter}
use Rattle.std.specs.List.{flat_map, range_with_len}
use Rattle.relation_list.specs.declared.names.RelName.TheVariants.{Plain}
use Rattle.relation_list.specs.Listings.{directs, prods_from}
use Rattle.relation_list.specs.Inner.{direct_within, name_within}
use Rattle.relation_list.proofs.listings.listing.Given as goal

abbrev pub invariant-loop-r : goal.invariant-loop-r
invariant-loop-r l = l.names.items ≡ map (λ r. Plain r) (take l.r-index l.r-items)

abbrev pub invariant-loop-k : goal.invariant-loop-k
invariant-loop-k l = record {
  made : l.names.items ≡ map (λ r. Plain r) (filter (direct_within l.d) (directs l.w)) ++ flat_map (λ k. filter (name_within l.d) (prods_from l.w k))
      (range_with_len 3 (l.k - 3));
  within : l.k - 3 ≤ l.w - 4;
}
