-- What single steps of the code answer. No public clause cites these, so a reader need not believe them.
use Rattle.zeta_expr.specs.declared.fault.LineFault.{LineFault}
use Rattle.zeta_expr.specs.declared.fault.LineFault.TheVariants.{Memory}

abbrev pub IsNoMemory : LineFault → Type 0
IsNoMemory (Memory e) = ⊥
IsNoMemory fault = Unit {0}
