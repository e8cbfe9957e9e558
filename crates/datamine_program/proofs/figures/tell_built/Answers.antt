use Rattle.std.proofs.Common.{inr, refl}
use Rattle.table_build.specs.Answers.{figures_of}
use Rattle.whole_runs.specs.declared.status.Status.TheVariants as status
use Rattle.whole_runs.specs.FileTexts.{figures_line}
use Rattle.whole_runs.proofs.Outcomes.{writes_all, writes_in_part}
use Rattle.datamine_program.proofs.figures.tell_built.Goals as goal

pub returns-in-Ok-clause-has : goal.returns-in-Ok-clause-has
returns-in-Ok-clause-has g c =
    λ left. writes_all (figures_line c.args.done.now (figures_of c.args.built)) status.Done _ _ left c.in-Ok.ensures.ok

pub returns-in-Err-clause-has : goal.returns-in-Err-clause-has
returns-in-Err-clause-has g c = λ left.
    writes_in_part (figures_line c.args.done.now (figures_of c.args.built)) status.Done _ _ left status.WriteFault (inr (inr (inr refl)))
    c.in-Err.ensures.err
