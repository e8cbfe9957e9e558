-- What the result of going on says of the bytes that stood on the disk, and what it leaves there.
use Rattle.std.specs.Prelude.{Option, Some, None, Result, Ok, Err, IfSome, IsTrue}
use Rattle.zeta_model.specs.Words.{is_admissible}
use Rattle.outside_io.specs.Traces.{Trace}
use Rattle.page_codec.specs.declared.params.Params.{Params}
use Rattle.page_codec.specs.Bounds.{IsParams}
use Rattle.file_model.specs.Builds.{Answer, ResumeEnds}
use Rattle.file_model.specs.Builds.Answer.{Foreign, BadPage, Other, Misfit, NoInverseWord, NotForward, NoInverseRelation, DiffersAt, Built as SaysBuilt}
use Rattle.table_build.specs.Answers.{figures_of}
use Rattle.table_build.specs.declared.table_file.Built.{Built}
use Rattle.table_build.specs.declared.fault.ResumeFault.{ResumeFault}
use Rattle.table_build.specs.declared.fault.ResumeFault.TheVariants as fault

-- nothing where a call of the disk failed or memory was wanting
abbrev pub fault_says : ResumeFault → Option Answer
fault_says fault.DiskFault = None
fault_says (fault.Foreign n) = Some (Foreign n)
fault_says (fault.BadPage i) = Some (BadPage i)
fault_says (fault.Other q) = Some (Other q)
fault_says (fault.Misfit i) = Some (Misfit i)
fault_says (fault.NoInverseWord value word) = Some (NoInverseWord value word)
fault_says (fault.NotForward i) = Some (NotForward i)
fault_says (fault.NoInverseRelation value n) = Some (NoInverseRelation value n)
fault_says (fault.Differs i) = Some (DiffersAt i)
fault_says (fault.Memory e) = None

abbrev pub result_says : Result Built ResumeFault → Option Answer
result_says (Ok built) = Some (SaysBuilt (figures_of built))
result_says (Err e) = fault_says e

-- what is said of the bytes holds, where the disk tells them
abbrev pub Tells : Params → Option Trace → Option Answer → Type 0
Tells params told said = IfSome said (λ answer. IfSome told (λ t. ResumeEnds params t.now.contents answer))

-- the work came to its end, or broke
abbrev pub IsWorkedFault : ResumeFault → Type 0
IsWorkedFault fault.DiskFault = ⊥
IsWorkedFault (fault.Foreign n) = ⊥
IsWorkedFault (fault.BadPage i) = ⊥
IsWorkedFault (fault.Other q) = ⊥
IsWorkedFault (fault.Misfit i) = ⊥
IsWorkedFault (fault.NoInverseWord value word) = ⊥
IsWorkedFault (fault.NotForward i) = ⊥
IsWorkedFault (fault.NoInverseRelation value n) = Unit {0}
IsWorkedFault (fault.Differs i) = ⊥
IsWorkedFault (fault.Memory e) = ⊥

abbrev pub HasWorked : Result Built ResumeFault → Type 0
HasWorked (Ok built) = Unit {0}
HasWorked (Err e) = IsWorkedFault e

-- the file, its rows or the table were refused, so that nothing was done
abbrev pub IsRefusal : ResumeFault → Type 0
IsRefusal fault.DiskFault = ⊥
IsRefusal (fault.Foreign n) = Unit {0}
IsRefusal (fault.BadPage i) = Unit {0}
IsRefusal (fault.Other q) = Unit {0}
IsRefusal (fault.Misfit i) = Unit {0}
IsRefusal (fault.NoInverseWord value word) = Unit {0}
IsRefusal (fault.NotForward i) = Unit {0}
IsRefusal (fault.NoInverseRelation value n) = ⊥
IsRefusal (fault.Differs i) = Unit {0}
IsRefusal (fault.Memory e) = ⊥

abbrev pub HasRefused : Result Built ResumeFault → Type 0
HasRefused (Ok built) = ⊥
HasRefused (Err e) = IsRefusal e

-- what a fault tells has a text: parameters pass their test, and a word is admissible
abbrev pub CanTell : ResumeFault → Type 0
CanTell fault.DiskFault = Unit {0}
CanTell (fault.Foreign n) = Unit {0}
CanTell (fault.BadPage i) = Unit {0}
CanTell (fault.Other q) = IsParams q
CanTell (fault.Misfit i) = Unit {0}
CanTell (fault.NoInverseWord value word) = IsTrue (is_admissible word)
CanTell (fault.NotForward i) = Unit {0}
CanTell (fault.NoInverseRelation value n) = Unit {0}
CanTell (fault.Differs i) = Unit {0}
CanTell (fault.Memory e) = Unit {0}
