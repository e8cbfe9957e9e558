use Rattle.std.proofs.Common.{ℕ, ◌<◌, slice_index}
use Rattle.zeta_model.specs.Modular.{Same}
use Rattle.linear_model.proofs.rows.same_row.Given as goal

abbrev pub invariant-loop-col : goal.invariant-loop-col
invariant-loop-col l = (j : ℕ) → j < l.col → Same l.m (slice_index l.p j) (slice_index l.q j)
