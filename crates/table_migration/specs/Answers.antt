-- What the result of a migration says of the source's bytes.
use Rattle.std.specs.Prelude.{Option, Some, None, Result, Ok, Err}
use Rattle.table_migration.specs.Migrations.{Answer}
use Rattle.table_migration.specs.Migrations.Answer.{Migrated as SaysMigrated, BadPage as SaysBadPage, Misfit as SaysMisfit, NotDone as SaysNotDone}
use Rattle.table_migration.specs.declared.migrating.Migrated.{Migrated}
use Rattle.table_migration.specs.declared.fault.MigrateFault.{MigrateFault}
use Rattle.table_migration.specs.declared.fault.MigrateFault.TheVariants as fault

-- nothing where a call failed, bytes stand on the disk, or memory was wanting
abbrev pub fault_answer : MigrateFault → Option Answer
fault_answer fault.DiskFault = None
fault_answer fault.ReadFault = None
fault_answer (fault.Exists n) = None
fault_answer (fault.BadPage i) = Some (SaysBadPage i)
fault_answer (fault.Misfit i) = Some (SaysMisfit i)
fault_answer (fault.NotDone n) = Some (SaysNotDone n)
fault_answer (fault.Memory e) = None

abbrev pub answer_of : Result Migrated MigrateFault → Option Answer
answer_of (Ok migrated) = Some (SaysMigrated migrated.params migrated.pages)
answer_of (Err e) = fault_answer e

-- the disk was found empty
abbrev pub IsBegunFault : MigrateFault → Type 0
IsBegunFault fault.DiskFault = ⊥
IsBegunFault fault.ReadFault = Unit {0}
IsBegunFault (fault.Exists n) = ⊥
IsBegunFault (fault.BadPage i) = Unit {0}
IsBegunFault (fault.Misfit i) = Unit {0}
IsBegunFault (fault.NotDone n) = Unit {0}
IsBegunFault (fault.Memory e) = Unit {0}

abbrev pub IsBegun : Result Migrated MigrateFault → Type 0
IsBegun (Ok migrated) = Unit {0}
IsBegun (Err e) = IsBegunFault e
