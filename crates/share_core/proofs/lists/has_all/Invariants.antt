use Rattle.std.proofs.Common.{ℕ, ◌<◌}
use Rattle.share_merge.specs.Turns.{HasIndex}
use Rattle.share_core.proofs.lists.has_all.Given as goal

abbrev pub invariant-loop-index : goal.invariant-loop-index
invariant-loop-index g l = (k : ℕ) → k < l.index → HasIndex l.shares k
