use Rattle.std.proofs.Common.{ℕ, ◌<◌, [], get_or}
use Rattle.share_check.specs.Inner.{AreOfShare}
use Rattle.share_check.proofs.share_numbers.first_foreign.Given as goal

abbrev pub invariant-loop-i : goal.invariant-loop-i
invariant-loop-i g l = (k : ℕ) → k < l.i → AreOfShare l.id.index l.id.of (get_or l.combinations k [])
