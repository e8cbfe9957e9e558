use Rattle.std.proofs.Common.{◌≡◌, ◌++◌, take, map, filter}
use Rattle.relation_list.specs.declared.names.Direct.TheVariants.{Dual}
use Rattle.relation_list.proofs.ListingLemmas.{is_dual_within}
use Rattle.relation_list.proofs.directs.push_duals.Given as goal

abbrev pub invariant-loop-u : goal.invariant-loop-u
invariant-loop-u l = l.names.items ≡ l.fn.names.items ++ map (λ u. Dual u) (filter (is_dual_within l.d) (take l.u-index l.u-items))
