use Rattle.std.proofs.Common.{◌≡◌, ◌%◌, slice_index}
use Rattle.linear_model.specs.Rows.{combination}
use Rattle.linear_model.specs.Tables.{entry_of}
use Rattle.linear_model.proofs.combine.combination.Given as goal

abbrev pub invariant-loop-i : goal.invariant-loop-i
invariant-loop-i l = l.sum ≡ combination l.i (entry_of l.width l.table) (slice_index l.coefficients) l.col % l.m
