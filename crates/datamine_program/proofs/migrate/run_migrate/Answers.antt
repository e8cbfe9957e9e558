use Rattle.std.proofs.Common.{Err, ap, inl, refl}
use Rattle.whole_runs.specs.declared.status.Status.TheVariants as status
use Rattle.table_migration.specs.Migrations.Answer.{Migrated}
use Rattle.datamine_program.proofs.Migrating.{copied_outcome, fault_tells, copy_ends, fault_ends, disk_failed, source_failed, empty_then, migrated_leaves, refused_leaves}
use Rattle.datamine_program.proofs.migrate.run_migrate.Goals as goal

pub returns-in-Ok-clause-which : goal.returns-in-Ok-clause-which
returns-in-Ok-clause-which g c = copy_ends status.Done c.tell_migrated.result (inl refl) c.tell_migrated.ensures.which

pub returns-in-Ok-clause-outcome : goal.returns-in-Ok-clause-outcome
returns-in-Ok-clause-outcome g c =
    let left = g.S.Source.left c.args.source.now in
    copied_outcome (g.D.Disk.trace c.args.disk.now) left (Migrated c.in-Ok.migrated.params c.in-Ok.migrated.pages) (c.in-Ok.ensures.begun tt, c.in-Ok.ensures.ends)
    _ _ _ (c.tell_migrated.ensures.has left)

pub returns-in-Ok-clause-leaves : goal.returns-in-Ok-clause-leaves
returns-in-Ok-clause-leaves g c =
    migrated_leaves (g.D.Disk.trace c.args.disk.now) (g.D.Disk.trace c.migrate.new.disk) (g.S.Source.left c.args.source.now) c.in-Ok.ensures.refused
    c.in-Ok.ensures.moments c.in-Ok.migrated c.tell_migrated.result c.in-Ok.ensures.ends c.in-Ok.ensures.left c.in-Ok.ensures.file

pub returns-in-Err-clause-which : goal.returns-in-Err-clause-which
returns-in-Err-clause-which g c = fault_ends c.in-Err.fault c.refuse_migrate.result c.refuse_migrate.ensures.which

pub returns-in-Err-clause-outcome : goal.returns-in-Err-clause-outcome
returns-in-Err-clause-outcome g c =
    let told = g.D.Disk.trace c.args.disk.now in
    let left = g.S.Source.left c.args.source.now in
    c.refuse_migrate.ensures.outcome told left (fault_tells c.in-Err.fault told left c.in-Err.ensures.ends c.in-Err.ensures.exists c.in-Err.ensures.begun)

pub returns-in-Err-clause-leaves : goal.returns-in-Err-clause-leaves
returns-in-Err-clause-leaves g c =
    refused_leaves (g.D.Disk.trace c.args.disk.now) (g.D.Disk.trace c.migrate.new.disk) (g.S.Source.left c.args.source.now) c.in-Err.ensures.refused
    c.in-Err.ensures.moments c.in-Err.fault c.refuse_migrate.result c.refuse_migrate.ensures.which c.in-Err.ensures.ends c.in-Err.ensures.left
    c.in-Err.ensures.exists

pub returns-in-Err-clause-empty : goal.returns-in-Err-clause-empty
returns-in-Err-clause-empty g c =
    empty_then c.in-Err.fault (g.D.Disk.trace c.args.disk.now) c.refuse_migrate.result c.refuse_migrate.ensures.which c.in-Err.ensures.begun

pub returns-in-Err-clause-disk_fault_only : goal.returns-in-Err-clause-disk_fault_only
returns-in-Err-clause-disk_fault_only g c =
    λ end. c.in-Err.ensures.disk_fault (ap Err (disk_failed c.in-Err.fault c.refuse_migrate.result c.refuse_migrate.ensures.which end))

pub returns-in-Err-clause-read_fault_only : goal.returns-in-Err-clause-read_fault_only
returns-in-Err-clause-read_fault_only g c =
    λ end. c.in-Err.ensures.read_fault (ap Err (source_failed c.in-Err.fault c.refuse_migrate.result c.refuse_migrate.ensures.which end))
