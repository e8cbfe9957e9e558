use Rattle.std.proofs.Common.{◌≡◌, None, Err, ap, subst, sym}
use Rattle.outside_io.specs.Causes.{Rose}
use Rattle.table_build.specs.Inner.{IsReadFault}
use Rattle.table_build.proofs.Openings.{not_read}
use Rattle.table_build.proofs.opening.next_page.Goals as goal

pub returns-in-Err-clause-fault : goal.returns-in-Err-clause-fault
returns-in-Err-clause-fault g c =
    let told = c.in-Err.ensures in
    let rose = Rose (g.D.Disk.faults c.args.disk.now) (g.D.Disk.faults c.page.new.disk) in
    let trace = g.D.Disk.trace c.args.disk.now in
    subst (IsReadFault rose (trace ≡ None)) (sym c.look_fault.ensures)
    (not_read rose trace c.in-Err.fault (λ e. told.disk_fault_only (ap Err e)) (λ n e. told.foreign n (ap Err e)) (λ n e. (told.bad_page n (ap Err e)).1))
