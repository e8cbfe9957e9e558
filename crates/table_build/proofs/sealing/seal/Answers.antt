use Rattle.table_build.proofs.SealSteps.{sealing_keeps, sealing_holds}
use Rattle.table_build.proofs.sealing.seal.Goals as goal

pub returns-in-Ok-clause-keeps : goal.returns-in-Ok-clause-keeps
returns-in-Ok-clause-keeps g c = λ pages k at holds.
    sealing_keeps pages k c.args.page.now (g.D.Disk.trace c.args.disk.now) (g.D.Disk.trace c.seal.new.disk) at holds c.seal.ensures.moments

pub returns-in-Ok-clause-holds : goal.returns-in-Ok-clause-holds
returns-in-Ok-clause-holds g c = λ pages k at holds.
    sealing_holds pages k c.args.page.now (g.D.Disk.trace c.args.disk.now) (g.D.Disk.trace c.seal.new.disk)
    (c.is_page.ensures.0 c.if-not-is_page.false) at holds
    c.in-Ok.ensures.left

pub returns-in-Err-clause-keeps : goal.returns-in-Err-clause-keeps
returns-in-Err-clause-keeps g c = λ pages k at holds.
    sealing_keeps pages k c.args.page.now (g.D.Disk.trace c.args.disk.now) (g.D.Disk.trace c.seal.new.disk) at holds c.seal.ensures.moments
