use Rattle.std.proofs.Common.{◌≡◌, ◌++◌, take, map}
use Rattle.relation_list.specs.declared.names.Direct.TheVariants.{Reg}
use Rattle.relation_list.proofs.directs.push_regs_at.Given as goal

abbrev pub invariant-loop-v : goal.invariant-loop-v
invariant-loop-v l = l.names.items ≡ l.fn.names.items ++ map (λ v. Reg l.m v) (take l.v-index l.v-items)
