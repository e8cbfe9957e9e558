-- What the result of a build says of the bytes that stood on the disk.
use Rattle.std.specs.Prelude.{Option, Some, None, Result, Ok, Err}
use Rattle.file_model.specs.Builds.{Figures, Answer}
use Rattle.file_model.specs.Builds.Answer.{Exists as SaysExists, NoInverseWord as SaysNoInverseWord, NoInverseRelation as SaysNoInverseRelation, Built as SaysBuilt}
use Rattle.table_build.specs.declared.table_file.Built.{Built}
use Rattle.table_build.specs.declared.fault.BuildFault.{BuildFault}
use Rattle.table_build.specs.declared.fault.BuildFault.TheVariants as fault

abbrev pub figures_of : Built → Figures
figures_of built = record { relations = built.relations; rows = built.rows; offered = built.offered; pages = built.pages }

-- nothing where a call of the disk failed, memory was wanting, or the disk gave other bytes than it took
abbrev pub fault_answer : BuildFault → Option Answer
fault_answer fault.DiskFault = None
fault_answer (fault.Exists n) = Some (SaysExists n)
fault_answer (fault.BadPage i) = None
fault_answer (fault.NoInverseWord value word) = Some (SaysNoInverseWord value word)
fault_answer (fault.NoInverseRelation value n) = Some (SaysNoInverseRelation value n)
fault_answer (fault.Differs i) = None
fault_answer (fault.Memory e) = None

abbrev pub answer_of : Result Built BuildFault → Option Answer
answer_of (Ok built) = Some (SaysBuilt (figures_of built))
answer_of (Err e) = fault_answer e

-- the work came to its end, or broke
abbrev pub IsWorkedFault : BuildFault → Type 0
IsWorkedFault fault.DiskFault = ⊥
IsWorkedFault (fault.Exists n) = ⊥
IsWorkedFault (fault.BadPage i) = ⊥
IsWorkedFault (fault.NoInverseWord value word) = ⊥
IsWorkedFault (fault.NoInverseRelation value n) = Unit {0}
IsWorkedFault (fault.Differs i) = ⊥
IsWorkedFault (fault.Memory e) = ⊥

abbrev pub IsWorked : Result Built BuildFault → Type 0
IsWorked (Ok built) = Unit {0}
IsWorked (Err e) = IsWorkedFault e

-- nothing was done, since bytes stand there or the table does not convert
abbrev pub IsRefusedFault : BuildFault → Type 0
IsRefusedFault fault.DiskFault = ⊥
IsRefusedFault (fault.Exists n) = Unit {0}
IsRefusedFault (fault.BadPage i) = ⊥
IsRefusedFault (fault.NoInverseWord value word) = Unit {0}
IsRefusedFault (fault.NoInverseRelation value n) = ⊥
IsRefusedFault (fault.Differs i) = ⊥
IsRefusedFault (fault.Memory e) = ⊥

abbrev pub IsRefused : Result Built BuildFault → Type 0
IsRefused (Ok built) = ⊥
IsRefused (Err e) = IsRefusedFault e
