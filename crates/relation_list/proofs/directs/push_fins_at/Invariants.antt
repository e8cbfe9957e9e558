use Rattle.std.proofs.Common.{◌≡◌, ◌-◌, ◌++◌, take, filter}
use Rattle.std.specs.List.{flat_map}
use Rattle.relation_list.specs.Listings.{fins_by}
use Rattle.relation_list.specs.Inner.{direct_within}
use Rattle.relation_list.proofs.directs.push_fins_at.Given as goal

abbrev pub invariant-loop-u : goal.invariant-loop-u
invariant-loop-u l = l.names.items ≡ l.fn.names.items ++ flat_map (λ u. filter (direct_within l.d) (fins_by (l.w - l.k) u)) (take l.u-index l.u-items)
