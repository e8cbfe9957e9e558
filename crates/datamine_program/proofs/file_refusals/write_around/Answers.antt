use Rattle.std.proofs.Common.{◌++◌, subst, append_assoc}
use Rattle.std.specs.Prelude.{decimal}
use Rattle.std.proofs.lemmas.Result.{err_from_is_err_and, on_err_weaker}
use Rattle.outside_io.specs.Told.{AppendsFront}
use Rattle.outside_io.proofs.Telling.{front_more, front_of}
use Rattle.datamine_program.proofs.file_refusals.write_around.Goals as goal

pub returns-in_err-write_begun-clause-err : goal.returns-in_err-write_begun-clause-err
returns-in_err-write_begun-clause-err g c =
    let first = c.args.first.now in
    let p = err_from_is_err_and c.from_residual.result c.from_residual.ensures.1 in
    rw p.1 (subst (AppendsFront (g.K.Sink.taken c.args.sink.now) (g.K.Sink.taken c.write_begun.new.sink))
    (append_assoc first (decimal c.args.number) c.args.second.now)
    (front_of _ _ (first ++ decimal c.args.number) c.args.second.now c.in_err-write_begun.ensures.err))

pub returns-clause-err : goal.returns-clause-err
returns-clause-err g c =
    let first = c.args.first.now in
    on_err_weaker c.write_all.result
    (λ f. subst (AppendsFront (g.K.Sink.taken c.args.sink.now) (g.K.Sink.taken c.write_all.new.sink))
    (append_assoc first (decimal c.args.number) c.args.second.now)
    (front_more _ _ _ (first ++ decimal c.args.number) c.args.second.now c.in_ok-write_begun.ensures.ok f)) c.write_all.ensures.err
