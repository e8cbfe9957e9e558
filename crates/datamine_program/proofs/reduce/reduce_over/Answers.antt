use Rattle.std.proofs.Common.{Ok}
use Rattle.whole_runs.specs.declared.command.Command.TheVariants.{Reduce}
use Rattle.datamine_program.proofs.Runs.{lines_run, reads_lines, refused_run}
use Rattle.datamine_program.proofs.Tables.{reduce_work, reduce_fault, fault_has_text}
use Rattle.datamine_program.proofs.reduce.reduce_over.Goals as goal

pub returns-in-Ok-clause-run : goal.returns-in-Ok-clause-run
returns-in-Ok-clause-run g c = λ contents.
    let params = c.args.params.now in
    let ready = c.in-Ok.ready in
    let told = c.run_lines.ensures in
    lines_run (Ok (Reduce params)) contents _ (reduce_work params contents ready.rows ready.columns _ c.in-Ok.ensures.replies) _ _ _ _ _
    tt told.which told.has told.takes told.done told.answered

pub returns-in-Ok-clause-source : goal.returns-in-Ok-clause-source
returns-in-Ok-clause-source g c = λ contents work is quiet.
    let params = c.args.params.now in
    let ready = c.in-Ok.ready in
    absurd (quiet (reads_lines (Ok (Reduce params)) contents _ (reduce_work params contents ready.rows ready.columns _ c.in-Ok.ensures.replies) work is))

pub refuse_table-requires : goal.refuse_table-requires
refuse_table-requires g c = fault_has_text c.args.params.now c.in-Err.fault c.in-Err.ensures.fault

pub returns-in-Err-clause-run : goal.returns-in-Err-clause-run
returns-in-Err-clause-run g c = λ contents.
    let params = c.args.params.now in
    refused_run (Ok (Reduce params)) contents _ _ _ _
    (c.refuse_table.ensures.outcome (Ok (Reduce params)) contents _ (reduce_fault params contents c.in-Err.fault c.in-Err.ensures.fault)) c.refuse_table.ensures.which
