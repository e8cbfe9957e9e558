use Rattle.std.proofs.Common.{Ok}
use Rattle.whole_runs.specs.declared.command.Command.TheVariants.{Rewrite}
use Rattle.datamine_program.proofs.FileRuns.{file_lines_run, file_reads_lines}
use Rattle.datamine_program.proofs.JudgedFiles.{can_tell}
use Rattle.datamine_program.proofs.Runs.{judged_run}
use Rattle.datamine_program.proofs.rewrite.rewrite_over.Goals as goal

pub returns-in-Ok-clause-run : goal.returns-in-Ok-clause-run
returns-in-Ok-clause-run g c =
    let told = c.run_lines.ensures in
    file_lines_run (Ok Rewrite) tt (g.D.Disk.trace c.args.disk.now) _ _ _ _ _ _ c.in-Ok.ensures.replies tt told.which told.has told.takes told.done told.answered

pub returns-in-Ok-clause-source : goal.returns-in-Ok-clause-source
returns-in-Ok-clause-source g c =
    λ work is quiet. absurd (quiet (file_reads_lines (Ok Rewrite) tt (g.D.Disk.trace c.args.disk.now) _ c.in-Ok.ensures.replies work is))

pub refuse_check-requires-clause-told : goal.refuse_check-requires-clause-told
refuse_check-requires-clause-told g c = can_tell _ (g.D.Disk.trace c.args.disk.now) c.args.params.now c.in-Err.fault c.in-Err.ensures.err

pub returns-in-Err-clause-run : goal.returns-in-Err-clause-run
returns-in-Err-clause-run g c =
    judged_run (Ok Rewrite) _ _ _ _ _
    (c.refuse_check.ensures.outcome (Ok Rewrite) (g.D.Disk.faults c.args.disk.now) (g.D.Disk.faults c.table_replies.new.disk) (g.D.Disk.trace c.args.disk.now)
    _ tt c.in-Err.ensures.err) c.refuse_check.ensures.which tt
