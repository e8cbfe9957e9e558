use Rattle.std.proofs.Common.{refl}
use Rattle.page_file.proofs.Pieces.{filled_told, stand_told}
use Rattle.page_file.proofs.window.read_on.Goals as goal

pub returns-clause-told : goal.returns-clause-told
returns-clause-told g c =
    filled_told (g.D.Disk.trace c.args.disk.now) _ c.args.buffer.now c.fill.new.buf c.args.have _ c.in_ok-count.count c.args.place refl c.requires.room
    c.in_ok-count.ensures.bound (stand_told (g.D.Disk.trace c.args.disk.now) c.args.buffer.now c.args.have c.args.place c.args.len c.requires.told)
    c.in_ok-count.ensures.bytes
