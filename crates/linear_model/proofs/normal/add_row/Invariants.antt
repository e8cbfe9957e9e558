use Rattle.linear_model.specs.Tables.{entry_of}
use Rattle.linear_model.proofs.RowSums.{AddedBelow}
use Rattle.linear_model.proofs.normal.add_row.Given as goal

abbrev pub invariant-loop-col : goal.invariant-loop-col
invariant-loop-col l = AddedBelow l.m l.width l.factor l.col (entry_of l.width l.table l.i) l.fn.row l.row
