use Rattle.std.proofs.Common.{◌≡◌}
use Rattle.std.specs.Prelude.{None}
use Rattle.outside_io.specs.Causes.{Rose}
use Rattle.table_migration.specs.Inner.{IsDiskCause, file_fault}
use Rattle.table_migration.proofs.Keeping.{renewed, look_cause}
use Rattle.table_migration.proofs.Copying.{err_is}
use Rattle.table_migration.proofs.migrating.begin.Goals as goal

pub returns-in_err-file-clause-cause : goal.returns-in_err-file-clause-cause
returns-in_err-file-clause-cause g c =
    let told = g.D.Disk.trace c.args.disk.now in
    let rose = Rose (g.D.Disk.faults c.args.disk.now) (g.D.Disk.faults c.look.new.disk) in
    err_is c.from_residual.result (IsDiskCause rose (told ≡ None)) (file_fault c.in_err-file.field-0.0) c.from_residual.ensures.1
    (look_cause told rose c.in_err-file.field-0.0 c.requires.empty c.in_err-file.ensures.foreign c.in_err-file.ensures.bad_page
    c.in_err-file.ensures.disk_fault_only)

pub returns-in_err-renew-clause-keeps : goal.returns-in_err-renew-clause-keeps
returns-in_err-renew-clause-keeps g c =
    renewed (g.D.Disk.trace c.args.disk.now) (g.D.Disk.trace c.look.new.disk) (g.D.Disk.trace c.renew.new.disk) c.requires.empty c.look.ensures.disk
    c.renew.ensures.moments

pub returns-clause-keeps : goal.returns-clause-keeps
returns-clause-keeps g c =
    renewed (g.D.Disk.trace c.args.disk.now) (g.D.Disk.trace c.look.new.disk) (g.D.Disk.trace c.renew.new.disk) c.requires.empty c.look.ensures.disk
    c.renew.ensures.moments
