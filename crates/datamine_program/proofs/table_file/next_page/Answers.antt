use Rattle.datamine_program.proofs.ShownPages.{misfit}
use Rattle.datamine_program.proofs.table_file.next_page.Goals as goal

pub returns-then-not-step-clause-err : goal.returns-then-not-step-clause-err
returns-then-not-step-clause-err g c =
    misfit (g.D.Disk.faults c.args.disk.now) (g.D.Disk.faults c.page.new.disk) (g.D.Disk.trace c.args.disk.now) c.args.walk.now c.args.place c.in-Ok.page
    c.in-Ok.ensures.ok (λ before is fits. let stepped = (c.step.ensures.fits before is).1 fits in cc)
