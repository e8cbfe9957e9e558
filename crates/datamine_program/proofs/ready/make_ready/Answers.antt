use Rattle.std.proofs.Common.{length, ap, ◌∙◌}
use Rattle.echelon.specs.Lists.{lead_at, row_at}
use Rattle.datamine_program.proofs.Tables.{replies_of_table}
use Rattle.datamine_program.proofs.ready.make_ready.Goals as goal

pub returns-clause-replies : goal.returns-clause-replies
returns-clause-replies g c =
    let table = c.in-Ok.made.table in
    let rows = c.in-Ok.made.rows.rows in
    replies_of_table c.args.params.now (g.R.Ring.modulus table.ring) table.columns (length rows) _ _ (lead_at rows)
    (row_at (g.R.Ring.value table.ring) rows) _ (ap g.R.Ring.modulus c.in-Ok.ensures.table_ring ∙ c.requires.ring) c.len-rows.ensures
    (c.len-columns.ensures.length ∙ ap (λ cs. length cs.list) c.columns.ensures.columns) c.in-Ok.ensures.made (c.of.ensures.replies rows c.in-Ok.ensures.forms)
