use Rattle.std.proofs.Common.{◌≡◌, ℕ, ◌<◌, length}
use Rattle.echelon.specs.Lists.{lead_at, row_at}
use Rattle.table_model.specs.Faults.{LeavesNothing}
use Rattle.cert_checker.proofs.leaving.first_missing.Given as goal

abbrev pub invariant-loop-n : goal.invariant-loop-n
invariant-loop-n g l = record {
  same_ring : l.products.ring ≡ l.table.ring;
  earlier : (k : ℕ) → k < l.n
      → LeavesNothing (g.R.Ring.modulus l.table.ring) l.table.columns (length l.list.rows) (lead_at l.list.rows) (row_at
      (g.R.Ring.value l.table.ring) l.list.rows) k;
}
