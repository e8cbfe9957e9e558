use Rattle.std.proofs.Common.{Ok}
use Rattle.whole_runs.specs.declared.command.Command.TheVariants.{Rewrite}
use Rattle.datamine_program.proofs.Runs.{judged_run, judged_from_unread}
use Rattle.datamine_program.proofs.rewrite.run_rewrite.Goals as goal

pub returns-in-Err-clause-run : goal.returns-in-Err-clause-run
returns-in-Err-clause-run g c =
    judged_run (Ok Rewrite) _ _ _ _ _
    (c.refuse_file.ensures.outcome (Ok Rewrite) (g.D.Disk.faults c.args.disk.now) (g.D.Disk.faults c.open_table.new.disk) (g.D.Disk.trace c.args.disk.now)
    _ tt c.in-Err.ensures.err) (judged_from_unread _ c.refuse_file.ensures.which) tt
