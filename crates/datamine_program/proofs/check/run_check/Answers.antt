use Rattle.std.proofs.Common.{Ok}
use Rattle.whole_runs.specs.declared.command.Command.TheVariants.{Check}
use Rattle.datamine_program.proofs.check.run_check.Goals as goal

pub returns-in-Err-clause-outcome : goal.returns-in-Err-clause-outcome
returns-in-Err-clause-outcome g c = λ left.
    c.refuse_file.ensures.outcome (Ok Check) (g.D.Disk.faults c.args.disk.now) (g.D.Disk.faults c.open_table.new.disk) (g.D.Disk.trace c.args.disk.now)
    left tt c.in-Err.ensures.err
