use Rattle.std.proofs.Common.{◌≡◌, ℕ, ◌<◌, length, get_or}
use Rattle.outside_io.specs.Picks.{filled_at}
use Rattle.outside_io.proofs.held.filled.Given as goal

abbrev pub invariant-loop-i : goal.invariant-loop-i
invariant-loop-i l = record {
  long : length l.image.items ≡ l.i;
  cells : (k : ℕ) → k < l.i → get_or l.image.items k 0 ≡ filled_at l.byte l.held k;
}
