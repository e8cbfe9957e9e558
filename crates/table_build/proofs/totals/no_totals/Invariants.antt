use Rattle.std.proofs.Common.{◌≡◌, ℕ, ◌<◌, [], length, get_or}
use Rattle.std.specs.List.{All}
use Rattle.row_sums.specs.Totals.{total_at}
use Rattle.table_build.proofs.totals.no_totals.Given as goal

abbrev pub invariant-loop : goal.invariant-loop
invariant-loop g l = record {
  count : length l.sums.items ≡ l.counter;
  size : (j : ℕ) → j < length l.sums.items → length (get_or l.sums.items j []) ≡ l.bound;
  are_sums : (j : ℕ) → j < length l.sums.items → All (g.R.Ring.is_sum l.ring) (get_or l.sums.items j []);
  zero : (j : ℕ) → j < length l.sums.items → (q : ℕ) → total_at (g.R.Ring.total l.ring) (get_or l.sums.items j []) q ≡ 0;
}
