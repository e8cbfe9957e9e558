use Rattle.std.proofs.Common.{ℕ, ◌<◌, slice_index}
use Rattle.linear_model.proofs.reduced.leads_rise.Given as goal

abbrev pub invariant-loop-k : goal.invariant-loop-k
invariant-loop-k l = (i k : ℕ) → i < k → k < l.k → slice_index l.leads i < slice_index l.leads k
