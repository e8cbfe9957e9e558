use Rattle.std.proofs.Common.{length, ap, ◌∙◌}
use Rattle.echelon.specs.Lists.{lead_at, row_at}
use Rattle.datamine_program.proofs.JudgedFiles.{rational_work}
use Rattle.datamine_program.proofs.file_replies.fraction_replies.Goals as goal

pub returns-in-Ok-new-clause-replies : goal.returns-in-Ok-new-clause-replies
returns-in-Ok-new-clause-replies g c =
    let told = g.D.Disk.trace c.args.disk.now in
    let checked = c.in-Ok.checked in
    let rows = checked.rows.rows in
    let whole = c.in-Ok.ensures.whole in
    let same = c.in-Ok.ensures.table_ring in
    rational_work c.args.params.now checked.table.columns whole.are_columns (length rows) (lead_at rows) (row_at (g.R.Ring.value c.args.ring) rows) told
    (g.R.Ring.modulus checked.table.ring) (row_at (g.R.Ring.value checked.table.ring) rows) _ (ap g.R.Ring.modulus same ∙ c.requires.ring)
    (ap (λ r. row_at (g.R.Ring.value r) rows) same) whole.finals c.in-Ok-new.ensures.replies
