-- What is told of a fault.
use Rattle.std.specs.Prelude.{ℕ}
use Rattle.column_order.specs.Columns.{ColumnList}
use Rattle.page_codec.specs.declared.params.Params.{Params}
use Rattle.lyndon_polys.specs.declared.fault.LyndonFault.{LyndonFault}
use Rattle.lyndon_polys.specs.declared.fault.LyndonFault.TheVariants as table
use Rattle.table_model.specs.Faults.{IsNotInvertible}
use Rattle.file_model.specs.TableOf.{IsTableOf}
use Rattle.page_file.specs.declared.fault.FileFault.{FileFault}
use Rattle.page_file.specs.declared.fault.FileFault.TheVariants as file
use Rattle.table_build.specs.declared.fault.WorkFault.{WorkFault}
use Rattle.table_build.specs.declared.fault.WorkFault.TheVariants as stopped
use Rattle.table_build.specs.declared.fault.BuildFault.{BuildFault}
use Rattle.table_build.specs.declared.fault.BuildFault.TheVariants as built
use Rattle.table_build.specs.declared.fault.ResumeFault.{ResumeFault}
use Rattle.table_build.specs.declared.fault.ResumeFault.TheVariants as resumed

abbrev pub work_fault : FileFault → WorkFault
work_fault file.DiskFault = stopped.DiskFault
work_fault (file.Foreign n) = stopped.Differs 0
work_fault (file.BadPage i) = stopped.BadPage i
work_fault (file.Memory fault) = stopped.Memory fault

abbrev pub build_fault : WorkFault → BuildFault
build_fault stopped.DiskFault = built.DiskFault
build_fault (stopped.BadPage i) = built.BadPage i
build_fault (stopped.NoInverse value n) = built.NoInverseRelation value n
build_fault (stopped.Differs i) = built.Differs i
build_fault (stopped.Memory fault) = built.Memory fault

-- a cause for each fault: the count rose, the disk does not tell, or the work breaks at a relation
abbrev pub HasCauseIn : Type 0 → Type 0 → (ℕ → ℕ → Type 0) → WorkFault → Type 0
HasCauseIn rose silent breaks stopped.DiskFault = rose
HasCauseIn rose silent breaks (stopped.BadPage i) = silent
HasCauseIn rose silent breaks (stopped.NoInverse value n) = breaks value n
HasCauseIn rose silent breaks (stopped.Differs i) = silent
HasCauseIn rose silent breaks (stopped.Memory fault) = Unit {0}

abbrev pub table_fault : LyndonFault → BuildFault
table_fault (table.NoInverse value word) = built.NoInverseWord value word
table_fault (table.Memory fault) = built.Memory fault

-- the table does not convert, first at the word, or memory was wanting
abbrev pub IsTableFault : Params → BuildFault → Type 0
IsTableFault params built.DiskFault = ⊥
IsTableFault params (built.Exists n) = ⊥
IsTableFault params (built.BadPage i) = ⊥
IsTableFault params (built.NoInverseWord value word) = (columns : ColumnList) × IsTableOf params columns × IsNotInvertible params.modulus columns word value
IsTableFault params (built.NoInverseRelation value n) = ⊥
IsTableFault params (built.Differs i) = ⊥
IsTableFault params (built.Memory fault) = Unit {0}

abbrev pub resume_fault : WorkFault → ResumeFault
resume_fault stopped.DiskFault = resumed.DiskFault
resume_fault (stopped.BadPage i) = resumed.BadPage i
resume_fault (stopped.NoInverse value n) = resumed.NoInverseRelation value n
resume_fault (stopped.Differs i) = resumed.Differs i
resume_fault (stopped.Memory fault) = resumed.Memory fault

abbrev pub look_fault : FileFault → ResumeFault
look_fault file.DiskFault = resumed.DiskFault
look_fault (file.Foreign n) = resumed.Foreign n
look_fault (file.BadPage i) = resumed.BadPage i
look_fault (file.Memory fault) = resumed.Memory fault

abbrev pub word_fault : LyndonFault → ResumeFault
word_fault (table.NoInverse value word) = resumed.NoInverseWord value word
word_fault (table.Memory fault) = resumed.Memory fault
