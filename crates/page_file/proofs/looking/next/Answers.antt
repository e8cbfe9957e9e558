use Rattle.std.proofs.Common.{refl, arith}
use Rattle.page_file.proofs.Fronts.{stands_there, unread_told}
use Rattle.page_file.proofs.looking.next.Goals as goal

pub returns-else-shown-le1-clause-err : goal.returns-else-shown-le1-clause-err
returns-else-shown-le1-clause-err g c =
    let short = rw c.in-Short-2.is at c.in_ok-page-2.ensures in (
      refl,
      unread_told (g.D.Disk.trace c.args.disk.now) c.refill.new.self c.args.place c.args.len
          (stands_there (g.D.Disk.trace c.args.disk.now) c.args.window.now c.refill.new.self c.args.place c.args.len c.requires.told c.in_ok-refill.ensures.told)
          c.in_ok-refill.ensures.whole (omega (arith, c.len-shown.ensures, c.if-shown-le1.false)) (rw c.bytes-2.ensures at short),
    )
