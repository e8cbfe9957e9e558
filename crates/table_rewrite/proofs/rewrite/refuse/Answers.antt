use Rattle.std.proofs.Common.{◌≡◌, refl}
use Rattle.std.specs.declared.alloc.AllocError.{AllocError}
use Rattle.zeta_expr.specs.declared.fault.LineFault.{LineFault}
use Rattle.zeta_expr.specs.declared.fault.LineFault.TheVariants.{LineTooLong, Syntax, NoInverse, WeightIs, DepthIs, Memory}
use Rattle.table_rewrite.specs.Inner.{IsNoMemory}
use Rattle.table_rewrite.proofs.rewrite.refuse.Goals as goal

no_memory : (fault : LineFault) → ((e : AllocError) → fault ≡ Memory e → ⊥) → IsNoMemory fault
no_memory LineTooLong n = tt
no_memory (Syntax at) n = tt
no_memory (NoInverse b) n = tt
no_memory (WeightIs k) n = tt
no_memory (DepthIs k) n = tt
no_memory (Memory e) n = n e refl

pub returns-in_default : goal.returns-in_default
returns-in_default c = (refl, no_memory c.args.fault c.in_default.not-Memory)
