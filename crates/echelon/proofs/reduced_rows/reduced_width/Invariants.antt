use Rattle.std.proofs.Common.{ℕ, ◌<◌, ◌≤◌, [], get_or}
use Rattle.sparse_rows.specs.Entries.{IsBelow}
use Rattle.echelon.specs.Inner.{IsReducedAt}
use Rattle.echelon.proofs.reduced_rows.reduced_width.Given as goal

abbrev pub invariant-loop-i : goal.invariant-loop-i
invariant-loop-i g l = record {
  few : l.columns ≤ 65536;
  place : l.i ≤ 65536;
  each : (k : ℕ) → k < l.i → IsReducedAt (g.R.Ring.value l.ring) g.R.Ring.zero l.rows k;
  below : (k : ℕ) → k < l.i → IsBelow (λ q. q) l.columns (get_or l.rows k []);
}
