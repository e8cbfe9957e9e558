use Rattle.std.proofs.Common.{ap, subst, ◌∙◌}
use Rattle.std.proofs.lemmas.Result.{on_ok_weaker, on_err_weaker}
use Rattle.outside_io.specs.Told.{after_told, AppendsFront}
use Rattle.written_lines.proofs.WrittenLines.{not_below_line}
use Rattle.written_lines.proofs.params.write_param.Goals as goal

pub returns-in-Weight-clause-ok : goal.returns-in-Weight-clause-ok
returns-in-Weight-clause-ok g c = rw c.in-Weight.is c.write_number.ensures.ok

pub returns-in-Depth-clause-ok : goal.returns-in-Depth-clause-ok
returns-in-Depth-clause-ok g c = rw c.in-Depth.is c.write_number-in-Depth.ensures.ok

pub returns-in-Modulus-clause-ok : goal.returns-in-Modulus-clause-ok
returns-in-Modulus-clause-ok g c = rw c.in-Modulus.is c.write_number-in-Modulus.ensures.ok

pub returns-in-NotBelow-clause-ok : goal.returns-in-NotBelow-clause-ok
returns-in-NotBelow-clause-ok g c =
    let line = not_below_line c.in-NotBelow.weight c.in-NotBelow.modulus in
    rw c.in-NotBelow.is (on_ok_weaker c.write_two.result (λ e. e ∙ ap (after_told (g.K.Sink.taken c.args.sink.now)) line) c.write_two.ensures.ok)

pub returns-in-NotBelow-clause-err : goal.returns-in-NotBelow-clause-err
returns-in-NotBelow-clause-err g c =
    let line = not_below_line c.in-NotBelow.weight c.in-NotBelow.modulus in
    rw c.in-NotBelow.is (on_err_weaker c.write_two.result
    (λ f. subst (AppendsFront (g.K.Sink.taken c.args.sink.now) (g.K.Sink.taken c.write_two.new.sink)) line f) c.write_two.ensures.err)

pub returns-in-Order-clause-ok : goal.returns-in-Order-clause-ok
returns-in-Order-clause-ok g c = rw c.in-Order.is c.write_all.ensures.ok

pub returns-in-Preferred-clause-ok : goal.returns-in-Preferred-clause-ok
returns-in-Preferred-clause-ok g c = rw c.in-Preferred.is c.write_number-in-Preferred.ensures.ok

pub returns-in-Columns-clause-ok : goal.returns-in-Columns-clause-ok
returns-in-Columns-clause-ok g c = rw c.in-Columns.is c.write_number-in-Columns.ensures.ok
