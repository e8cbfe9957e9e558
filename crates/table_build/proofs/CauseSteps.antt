-- Causes of faults of calls in turn.
use Rattle.std.specs.Prelude.{ℕ}
use Rattle.table_build.specs.declared.fault.WorkFault.{WorkFault}
use Rattle.table_build.specs.declared.fault.WorkFault.TheVariants.{DiskFault, BadPage, NoInverse, Differs, Memory}
use Rattle.table_build.specs.Faults.{HasCauseIn}

-- the cause of a fault, told in other words
pub cause_more : (rose silent other_rose other_silent : Type 0) (breaks other_breaks : ℕ → ℕ → Type 0) → (rose → other_rose) → (silent → other_silent)
    → ((value n : ℕ) → breaks value n → other_breaks value n) → (fault : WorkFault) → HasCauseIn rose silent breaks fault
    → HasCauseIn other_rose other_silent other_breaks fault
cause_more rose silent other_rose other_silent breaks other_breaks f g h DiskFault cause = f cause
cause_more rose silent other_rose other_silent breaks other_breaks f g h (BadPage i) cause = g cause
cause_more rose silent other_rose other_silent breaks other_breaks f g h (NoInverse value n) cause = h value n cause
cause_more rose silent other_rose other_silent breaks other_breaks f g h (Differs i) cause = g cause
cause_more rose silent other_rose other_silent breaks other_breaks f g h (Memory fault) cause = tt
