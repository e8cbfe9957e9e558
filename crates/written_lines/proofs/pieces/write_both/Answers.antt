use Rattle.std.proofs.lemmas.Result.{err_from_is_err_and, on_err_weaker}
use Rattle.outside_io.proofs.Telling.{front_more, front_of}
use Rattle.written_lines.proofs.pieces.write_both.Goals as goal

pub returns-in_err-write_all-clause-err : goal.returns-in_err-write_all-clause-err
returns-in_err-write_all-clause-err g c =
    let p = err_from_is_err_and c.from_residual.result c.from_residual.ensures.1 in
    rw p.1 (front_of _ _ c.args.first.now c.args.second.now c.in_err-write_all.ensures.err)

pub returns-clause-err : goal.returns-clause-err
returns-clause-err g c = on_err_weaker c.write_all-2.result
    (front_more _ _ _ c.args.first.now c.args.second.now c.in_ok-write_all.ensures.ok) c.write_all-2.ensures.err
