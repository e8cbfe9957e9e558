use Rattle.std.proofs.Common.{ℕ, ◌<◌, ◌≤◌, ◌+◌, length, slice_index}
use Rattle.zeta_model.specs.Modular.{Same}
use Rattle.linear_model.specs.Tables.{entry_of}
use Rattle.linear_model.proofs.reduced.is_reduced.Given as goal

abbrev pub invariant-loop-i : goal.invariant-loop-i
invariant-loop-i l = (i k : ℕ) → i < l.i → i + 1 ≤ k → k < length l.leads → Same l.m (entry_of l.width l.table i (slice_index l.leads k)) 0
