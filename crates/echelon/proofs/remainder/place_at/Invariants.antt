use Rattle.std.proofs.Common.{◌≡◌, ℕ, ◌-◌, ◌<◌, ◌≤◌, length}
use Rattle.echelon.specs.Lists.{lead_at}
use Rattle.echelon.proofs.remainder.place_at.Given as goal

abbrev pub invariant-loop-low : goal.invariant-loop-low
invariant-loop-low g l = record {
  within : l.high ≤ length l.rows;
  order : l.low ≤ l.high;
  early : (i : ℕ) → i < l.low → lead_at l.rows i < l.column;
  late : (i : ℕ) → l.high ≤ i → i < length l.rows → l.column < lead_at l.rows i;
}

abbrev pub decreases-loop-low : goal.decreases-loop-low
decreases-loop-low g l = l.high - l.low
