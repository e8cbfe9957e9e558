use Rattle.std.proofs.Common.{◌≡◌, ℕ, ◌/◌, ◌<◌, ◌≤◌, get_or}
use Rattle.table_build.proofs.rereading.end_of_block.Given as goal

abbrev pub invariant-loop-i : goal.invariant-loop-i
invariant-loop-i l = (k : ℕ) → l.done ≤ k → k < l.i → get_or l.numbers k 0 / 64 ≡ l.block
