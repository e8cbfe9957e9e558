use Rattle.std.proofs.Common.{Err, ap, subst, sym}
use Rattle.outside_io.specs.Causes.{Rose}
use Rattle.table_checker.specs.Inner.{IsPageFault}
use Rattle.table_checker.proofs.PageWalks.{not_read, misfit}
use Rattle.table_checker.proofs.file_pages.next_page.Goals as goal

pub returns-in-Err-clause-err : goal.returns-in-Err-clause-err
returns-in-Err-clause-err g c =
    let told = c.in-Err.ensures in
    let before = g.D.Disk.faults c.args.disk.now in
    let now = g.D.Disk.faults c.page.new.disk in
    let trace = g.D.Disk.trace c.args.disk.now in
    subst (IsPageFault (Rose before now) trace c.args.walk.now c.args.place) (sym c.reading_fault.ensures)
    (not_read before now trace c.args.walk.now c.args.place c.in-Err.fault (λ e. told.disk_fault_only (ap Err e)) (λ n e. told.foreign n (ap Err e))
    (λ n e. (told.bad_page n (ap Err e)).1))

pub returns-then-not-step-clause-err : goal.returns-then-not-step-clause-err
returns-then-not-step-clause-err g c =
    misfit (g.D.Disk.faults c.args.disk.now) (g.D.Disk.faults c.page.new.disk) (g.D.Disk.trace c.args.disk.now) c.args.walk.now c.args.place c.in-Ok.page
    c.in-Ok.ensures.ok (λ before is fits. let stepped = (c.step.ensures.fits before is).1 fits in cc)
