use Rattle.std.proofs.Common.{◌++◌, ◌∷◌, [], refl, ap, subst, ◌∙◌}
use Rattle.std.specs.Prelude.{codes, decimal}
use Rattle.std.proofs.lemmas.Result.{err_from_is_err_and, on_ok_weaker, on_err_weaker}
use Rattle.outside_io.specs.Told.{after_told, AppendsFront}
use Rattle.outside_io.proofs.Telling.{both_taken, front_more, front_of}
use Rattle.table_build.specs.Answers.{figures_of}
use Rattle.datamine_program.proofs.WrittenFigures.{figures_pieces}
use Rattle.datamine_program.proofs.figures.write_counted.Goals as goal

pub returns-in_err-write_counts-clause-err : goal.returns-in_err-write_counts-clause-err
returns-in_err-write_counts-clause-err g c =
    let built = c.args.built in
    let p = err_from_is_err_and c.from_residual.result c.from_residual.ensures.1 in
    rw p.1 (subst (AppendsFront (g.K.Sink.taken c.args.sink.now) (g.K.Sink.taken c.write_counts.new.sink))
    (figures_pieces (figures_of built) c.from-relations.result c.from-rows.result built.offered c.from-relations.ensures c.from-rows.ensures refl)
    (front_of _ _ _ (codes ", offered " ++ (decimal built.offered ++ (codes ", pages " ++ (decimal built.pages ++ 10 ∷ []))))
    c.in_err-write_counts.ensures.err))

pub returns-clause-ok : goal.returns-clause-ok
returns-clause-ok g c =
    let built = c.args.built in
    on_ok_weaker c.write_two.result
    (λ e. both_taken _ _ _ _ _ c.in_ok-write_counts.ensures.ok e
    ∙ ap (after_told (g.K.Sink.taken c.args.sink.now))
    (figures_pieces (figures_of built) c.from-relations.result c.from-rows.result c.from-offered.result c.from-relations.ensures c.from-rows.ensures
    c.from-offered.ensures)) c.write_two.ensures.ok

pub returns-clause-err : goal.returns-clause-err
returns-clause-err g c =
    let built = c.args.built in
    on_err_weaker c.write_two.result
    (λ f. subst (AppendsFront (g.K.Sink.taken c.args.sink.now) (g.K.Sink.taken c.write_two.new.sink))
    (figures_pieces (figures_of built) c.from-relations.result c.from-rows.result c.from-offered.result c.from-relations.ensures c.from-rows.ensures
    c.from-offered.ensures)
    (front_more _ _ _ _ _ c.in_ok-write_counts.ensures.ok f)) c.write_two.ensures.err
