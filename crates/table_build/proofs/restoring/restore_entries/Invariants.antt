use Rattle.std.proofs.Common.{◌≡◌, ◌+◌, length}
use Rattle.table_build.proofs.Restorings.{Restoring}
use Rattle.table_build.proofs.restoring.restore_entries.Given as goal

abbrev pub invariant-loop-entry : goal.invariant-loop-entry
invariant-loop-entry g l = let ring = l.initial.offering.table.ring in record {
  going : Restoring (g.R.Ring.has ring) (g.R.Ring.value ring) (g.R.Ring.modulus ring) (length l.initial.offering.table.columns.list) (l.first + 64) l.entries
      l.initial.kept.numbers.items l.initial.kept.rows.items l.offering.table l.offering.names.items l.offering.kept.ring l.offering.echelon
      l.kept.numbers.items l.kept.rows.items l.rest;
  table : (l.offering.table ≡ l.initial.offering.table) × (l.offering.names.items ≡ l.initial.offering.names.items);
  numbers : l.kept.numbers.items ≡ l.offering.echelon.numbers;
  same_rows : l.kept.rows.items ≡ l.offering.echelon.rows;
}

abbrev pub decreases-loop-entry : goal.decreases-loop-entry
decreases-loop-entry g l = length l.rest
