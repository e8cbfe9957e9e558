use Rattle.std.proofs.Common.{rules}
use Rattle.linear_model.specs.Tables.{entry_of}
use Rattle.linear_model.proofs.RowSums.{added_next}
use Rattle.linear_model.proofs.normal.add_row.Goals as goal

pub loop-col-preserved : goal.loop-col-preserved
loop-col-preserved c = added_next c.args.m c.args.width c.args.factor c.loop-col.col
    (entry_of c.args.width c.args.table.now c.args.i) c.args.row.now c.loop-col.row _ c.loop-col.invariant (search rules) (search rules)
