use Rattle.std.proofs.Common.{◌≢◌, ℕ, ◌<◌}
use Rattle.echelon.specs.Lists.{lead_at}
use Rattle.table_checker.proofs.leading.row_leading_at.Given as goal

abbrev pub invariant-loop-j : goal.invariant-loop-j
invariant-loop-j g l = (k : ℕ) → k < l.j → lead_at l.rows.rows k ≢ l.col
