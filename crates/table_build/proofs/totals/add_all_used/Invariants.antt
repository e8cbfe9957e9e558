use Rattle.std.proofs.Common.{◌≡◌, ℕ, ◌+◌, ◌<◌, ◌≤◌, [], length, get_or}
use Rattle.std.specs.List.{All}
use Rattle.linear_model.specs.Rows.{combination, SameRow}
use Rattle.row_sums.specs.Totals.{total_at}
use Rattle.echelon.specs.Lists.{row_at}
use Rattle.echelon.specs.Offers.{used_at}
use Rattle.table_build.proofs.totals.add_all_used.Given as goal

abbrev pub invariant-loop-j : goal.invariant-loop-j
invariant-loop-j g l = record {
  as_many : length l.sums ≡ length l.initial.sums;
  sizes : (k : ℕ) → length (get_or l.sums k []) ≡ length (get_or l.initial.sums k []);
  are_sums : (k : ℕ) → k < length l.sums → All (g.R.Ring.is_sum l.ring) (get_or l.sums k []);
  added : (k : ℕ) → k < l.j → SameRow (g.R.Ring.modulus l.ring) (total_at (g.R.Ring.total l.ring) (get_or l.sums k []))
      (λ q. total_at (g.R.Ring.total l.ring) (get_or l.initial.sums k []) q
      + combination (length l.combinations) (row_at (g.R.Ring.value l.ring) l.combinations) (used_at (g.R.Ring.value l.ring) l.numbers (get_or l.uses k [])) q);
  left : (k : ℕ) → l.j ≤ k → get_or l.sums k [] ≡ get_or l.initial.sums k [];
}
