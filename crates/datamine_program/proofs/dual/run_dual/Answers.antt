use Rattle.std.proofs.Common.{Ok, ap}
use Rattle.whole_runs.specs.declared.command.Command.TheVariants.{Dual}
use Rattle.whole_runs.specs.Works.Work.{Replies}
use Rattle.datamine_program.proofs.Runs.{lines_run}
use Rattle.datamine_program.proofs.dual.run_dual.Goals as goal

pub returns-clause-run : goal.returns-clause-run
returns-clause-run g c = λ contents.
    let told = c.run_lines.ensures in
    lines_run (Ok (Dual c.args.modulus)) contents _ (ap Replies c.modulo.ensures) _ _ _ _ _ tt told.which told.has told.takes told.done told.answered
