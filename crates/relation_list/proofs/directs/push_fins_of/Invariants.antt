use Rattle.std.proofs.Common.{◌≡◌, ◌++◌, take, map, filter}
use Rattle.relation_list.specs.declared.names.Direct.TheVariants.{Fin}
use Rattle.relation_list.specs.Names.{in_order}
use Rattle.relation_list.proofs.directs.push_fins_of.Given as goal

abbrev pub invariant-loop-v : goal.invariant-loop-v
invariant-loop-v l = l.names.items ≡ l.fn.names.items ++ map (λ v. Fin l.u v) (filter (in_order l.u) (take l.v-index l.v-items))
