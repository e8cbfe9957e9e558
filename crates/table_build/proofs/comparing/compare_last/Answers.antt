use Rattle.std.proofs.Common.{◌≡◌}
use Rattle.std.specs.Prelude.{Some, slice_get}
use Rattle.page_codec.specs.declared.page.Page.TheVariants.{Done}
use Rattle.table_build.proofs.SealSteps.{told_always}
use Rattle.table_build.proofs.comparing.compare_last.Goals as goal

pub returns-clause-first : goal.returns-clause-first
returns-clause-first g c = λ pages at first.
    c.compare_page.ensures.first pages
    (told_always (slice_get pages c.args.number ≡ Some (Done c.args.count)) (g.D.Disk.trace c.args.disk.now) at) first

pub returns-clause-fault : goal.returns-clause-fault
returns-clause-fault g c = λ pages at first.
    c.compare_page.ensures.fault pages
    (told_always (slice_get pages c.args.number ≡ Some (Done c.args.count)) (g.D.Disk.trace c.args.disk.now) at) first
