use Rattle.std.proofs.Common.{◌≡◌, ◌≤◌}
use Rattle.table_build.proofs.RestoredRows.{IsRestored}
use Rattle.table_build.proofs.restoring.restore_rows.Given as goal

abbrev pub invariant-loop-place : goal.invariant-loop-place
invariant-loop-place g l = let ring = l.fn.offering.table.ring in record {
  going : IsRestored (g.R.Ring.has ring) (g.R.Ring.value ring) (g.D.Disk.trace l.fn.disk) l.params l.place l.walk l.offering.table l.offering.names.items
      l.offering.kept.ring l.offering.echelon l.kept.numbers.items l.kept.rows.items;
  table : (l.offering.table ≡ l.fn.offering.table) × (l.offering.names.items ≡ l.fn.offering.names.items);
  numbers : l.kept.numbers.items ≡ l.offering.echelon.numbers;
  same_rows : l.kept.rows.items ≡ l.offering.echelon.rows;
  file : l.file ≡ l.fn.file;
  same : g.D.Disk.trace l.disk ≡ g.D.Disk.trace l.fn.disk;
  faults : g.D.Disk.faults l.fn.disk ≤ g.D.Disk.faults l.disk;
}
