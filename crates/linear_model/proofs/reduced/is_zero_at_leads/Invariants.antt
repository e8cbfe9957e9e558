use Rattle.std.proofs.Common.{ℕ, ◌<◌, ◌≤◌, slice_index}
use Rattle.zeta_model.specs.Modular.{Same}
use Rattle.linear_model.specs.Tables.{entry_of}
use Rattle.linear_model.proofs.reduced.is_zero_at_leads.Given as goal

abbrev pub invariant-loop-k : goal.invariant-loop-k
invariant-loop-k l = (k : ℕ) → l.fn.first ≤ k → k < l.k → Same l.m (entry_of l.width l.table l.fn.i (slice_index l.leads k)) 0
