use Rattle.std.proofs.Common.{slice_index}
use Rattle.linear_model.specs.Tables.{entry_of}
use Rattle.linear_model.specs.Forward.{IsForward}
use Rattle.linear_model.proofs.reduced.is_forward.Given as goal

abbrev pub invariant-loop-i : goal.invariant-loop-i
invariant-loop-i l = IsForward l.m l.i (slice_index l.leads) (entry_of l.width l.table)
