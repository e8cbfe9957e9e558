use Rattle.std.proofs.Common.{◌≡◌, ◌++◌, take, map}
use Rattle.relation_list.specs.declared.names.RelName.TheVariants.{Prod}
use Rattle.relation_list.proofs.listings.push_prods_of.Given as goal

abbrev pub invariant-loop-u : goal.invariant-loop-u
invariant-loop-u l = l.names.items ≡ l.fn.names.items ++ map (λ u. Prod l.r u) (take l.u-index l.u-items)
