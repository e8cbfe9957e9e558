use Rattle.echelon.proofs.UsedRows.{reducing_more}
use Rattle.echelon.proofs.finishing.reduced_rows.Goals as goal

pub loop-column-preserved : goal.loop-column-preserved
loop-column-preserved g c =
    let ring = c.args.ring.now in
    reducing_more (g.R.Ring.modulus ring) (g.R.Ring.has ring)
    (g.R.Ring.value ring) g.R.Ring.zero c.args.columns c.args.numbers.now c.args.rows.now c.loop-column.column c.loop-column.reduced.items
    c.loop-column.all_uses.items c.loop-column.invariant
    c.in-Some.i c.in_ok-row.field-0.row c.in_ok-row.field-0.uses c.push.new.self.items c.push-in-loop-column.new.self.items c.in-Some.ensures.found.0
    c.in-Some.ensures.found.1 c.in_ok-row.ensures
    c.in_ok-push.ensures.items c.in_ok-push-2.ensures.items
