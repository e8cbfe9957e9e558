use Rattle.std.proofs.Common.{[]}
use Rattle.std.proofs.lemmas.Result.{err_from_is_err_and, on_ok_weaker, on_err_weaker}
use Rattle.outside_io.proofs.Telling.{both_taken, front_more, front_of}
use Rattle.table_build.specs.Answers.{figures_of}
use Rattle.whole_runs.specs.FileTexts.{figures_line}
use Rattle.datamine_program.proofs.figures.write_figures.Goals as goal

pub returns-in_err-write_all-clause-err : goal.returns-in_err-write_all-clause-err
returns-in_err-write_all-clause-err g c =
    let p = err_from_is_err_and c.from_residual.result c.from_residual.ensures.1 in
    rw p.1 (front_of _ _ c.args.done.now (figures_line [] (figures_of c.args.built)) c.in_err-write_all.ensures.err)

pub returns-clause-ok : goal.returns-clause-ok
returns-clause-ok g c = on_ok_weaker c.write_counted.result
    (λ e. both_taken _ _ _ c.args.done.now (figures_line [] (figures_of c.args.built)) c.in_ok-write_all.ensures.ok e) c.write_counted.ensures.ok

pub returns-clause-err : goal.returns-clause-err
returns-clause-err g c = on_err_weaker c.write_counted.result
    (λ f. front_more _ _ _ c.args.done.now (figures_line [] (figures_of c.args.built)) c.in_ok-write_all.ensures.ok f) c.write_counted.ensures.err
