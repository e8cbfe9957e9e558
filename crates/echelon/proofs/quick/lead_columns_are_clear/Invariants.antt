use Rattle.std.proofs.Common.{◌≡◌, ◌≢◌, ℕ, ◌<◌, length}
use Rattle.echelon.specs.Lists.{row_at, lead_at}
use Rattle.echelon.proofs.quick.lead_columns_are_clear.Given as goal

abbrev pub invariant-loop-i : goal.invariant-loop-i
invariant-loop-i g l = (value : g.row.R-Elem.Denot → ℕ) (j : ℕ) → j < l.i → (k : ℕ) → k < length l.rows → k ≢ j
    → row_at value l.rows j (lead_at l.rows k) ≡ 0
