use Rattle.std.proofs.Common.{◌≡◌, ◌-◌, ◌++◌, take, filter}
use Rattle.std.specs.List.{flat_map}
use Rattle.relation_list.specs.Listings.{prods_by}
use Rattle.relation_list.specs.Inner.{name_within}
use Rattle.relation_list.proofs.listings.push_prods_at.Given as goal

abbrev pub invariant-loop-r : goal.invariant-loop-r
invariant-loop-r l = l.names.items ≡ l.fn.names.items ++ flat_map (λ r. filter (name_within l.d) (prods_by (l.w - l.k) r)) (take l.r-index l.r-items)
