use Rattle.std.proofs.Common.{Ok, length, subst, sym}
use Rattle.echelon.specs.Lists.{lead_at, row_at}
use Rattle.whole_runs.specs.declared.command.Command.TheVariants.{Check}
use Rattle.whole_runs.specs.declared.status.Status.TheVariants as status
use Rattle.whole_runs.specs.FileTexts.{complete_line}
use Rattle.whole_runs.specs.Works.Work.{Writes}
use Rattle.datamine_program.specs.Inner.{IsFileWork}
use Rattle.datamine_program.proofs.FileRuns.{file_outcome}
use Rattle.datamine_program.proofs.JudgedFiles.{can_tell, complete_work}
use Rattle.datamine_program.proofs.check.check_over.Goals as goal

pub returns-in-Ok-clause-outcome : goal.returns-in-Ok-clause-outcome
returns-in-Ok-clause-outcome g c = λ left.
    let told = g.D.Disk.trace c.args.disk.now in
    let params = c.args.params.now in
    let checked = c.in-Ok.checked in
    let rows = checked.rows.rows in
    let whole = c.in-Ok.ensures.whole in
    file_outcome (Ok Check) tt told (Writes (complete_line params checked.relations c.len-rows.result) status.Done) left _ _ _
    (subst (λ n. IsFileWork (Ok Check) told (Writes (complete_line params checked.relations n) status.Done)) (sym c.len-rows.ensures)
    (complete_work params checked.table.columns whole.are_columns (length rows) (lead_at rows) (row_at (g.R.Ring.value c.args.ring) rows) told
    checked.relations whole.finals c.in-Ok.ensures.relations)) (c.tell_complete.ensures.has left)

pub refuse_check-requires-clause-told : goal.refuse_check-requires-clause-told
refuse_check-requires-clause-told g c = can_tell _ (g.D.Disk.trace c.args.disk.now) c.args.params.now c.in-Err.fault c.in-Err.ensures.err

pub returns-in-Err-clause-outcome : goal.returns-in-Err-clause-outcome
returns-in-Err-clause-outcome g c = λ left.
    c.refuse_check.ensures.outcome (Ok Check) (g.D.Disk.faults c.args.disk.now) (g.D.Disk.faults c.checked_table.new.disk) (g.D.Disk.trace c.args.disk.now)
    left tt c.in-Err.ensures.err
