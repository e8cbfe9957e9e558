use Rattle.std.proofs.Common.{◌∙◌, ap, length, drop, arith}
use Rattle.page_file.proofs.Pieces.{passed}
use Rattle.page_file.proofs.window.Window.pass.Goals as goal

pub returns : goal.returns
returns c =
    passed c.self.inside.buffer.items c.self.inside.from c.self.inside.to c.args.count c.self.invariant.0 c.self.invariant.1
    (omega (arith, ap length c.self.view_is, c.requires)) ∙ ap (drop c.args.count) c.self.view_is
