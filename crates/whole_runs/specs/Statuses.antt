-- The numbers of the statuses, and what they say of a run.
use Rattle.std.specs.Prelude.{◌≡◌, ◌⊎◌, ℕ}
use Rattle.whole_runs.specs.declared.status.Status.{Status}
use Rattle.whole_runs.specs.declared.status.Status.TheVariants.{Done, Memory, Usage, Params, NoInverse, DiskFault, ReadFault, WriteFault}
use Rattle.whole_runs.specs.declared.status.Status.TheVariants.{NotATable, NotComplete, TooMuchInput}

-- the number with which the process ends; no run ends with 10
abbrev pub code_of : Status → ℕ
code_of Done = 0
code_of Memory = 1
code_of Usage = 2
code_of Params = 3
code_of NoInverse = 4
code_of DiskFault = 5
code_of ReadFault = 6
code_of WriteFault = 7
code_of NotATable = 8
code_of NotComplete = 9
code_of TooMuchInput = 11

-- want of memory or a fault outside may break a run off, and nothing else does
abbrev pub BreaksOff : Status → Type 0
BreaksOff status = (status ≡ Memory) ⊎ (status ≡ DiskFault) ⊎ (status ≡ ReadFault) ⊎ (status ≡ WriteFault)

-- the status comes exactly where there is this cause; a write that fails may take its place, and want of memory never
abbrev pub ComesFor : Type 0 → Status → Status → Type 0
ComesFor cause status result = (result ≡ status → cause) × (cause → (result ≡ status) ⊎ (result ≡ WriteFault))
