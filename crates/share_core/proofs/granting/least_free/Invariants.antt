use Rattle.std.proofs.Common.{ℕ, ◌<◌}
use Rattle.share_core.specs.Lists.{IsFree}
use Rattle.share_core.proofs.granting.least_free.Given as goal

abbrev pub invariant-loop-index : goal.invariant-loop-index
invariant-loop-index g l = (k : ℕ) → k < l.index → ¬ (IsFree l.lists k)
