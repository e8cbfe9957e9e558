-- The numbers of the statuses, and when each comes.
use Rattle.std.specs.Prelude.{◌≡◌, ◌⊎◌, ℕ}
use Rattle.merge_program.specs.declared.status.MergeStatus.{MergeStatus}
use Rattle.merge_program.specs.declared.status.MergeStatus.TheVariants.{Done, Memory, Usage, Params, NoInverse, DiskFault, WriteFault, NotAShare, NotComplete}

-- the number with which the process ends; no run ends with 6
abbrev pub code_of : MergeStatus → ℕ
code_of Done = 0
code_of Memory = 1
code_of Usage = 2
code_of Params = 3
code_of NoInverse = 4
code_of DiskFault = 5
code_of WriteFault = 7
code_of NotAShare = 8
code_of NotComplete = 9

-- the status comes exactly where there is this cause; a write that fails may take its place, and want of memory never
abbrev pub ComesFor : Type 0 → MergeStatus → MergeStatus → Type 0
ComesFor cause status result = (result ≡ status → cause) × (cause → (result ≡ status) ⊎ (result ≡ WriteFault))

-- the same where want of memory may take its place too
abbrev pub ComesWithMemory : Type 0 → MergeStatus → MergeStatus → Type 0
ComesWithMemory cause status result = (result ≡ status → cause) × (cause → (result ≡ status) ⊎ (result ≡ Memory) ⊎ (result ≡ WriteFault))
