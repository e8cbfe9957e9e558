use Rattle.std.proofs.Common.{◌≡◌, ◌+◌, ◌*◌, ◌≤◌}
use Rattle.std.specs.Prelude.{IfSome, None}
use Rattle.page_file.specs.Notes.{Suits}
use Rattle.known_sums.specs.Known.{Knows}
use Rattle.table_build.specs.Inner.{Course, CanOffer, AreRows, IsAt, IsReadyAt, Keeps}
use Rattle.table_build.proofs.building.work_on_blocks.Given as goal

abbrev pub invariant-loop-number : goal.invariant-loop-number
invariant-loop-number g l = record {
  can : CanOffer l.offering.table l.offering.names.items l.offering.kept.ring l.offering.echelon (64 * l.number);
  known : Knows (g.R.Ring.modulus l.fn.offering.table.ring) (g.R.Ring.has l.fn.offering.table.ring) (g.R.Ring.value l.fn.offering.table.ring)
      l.fn.offering.table l.offering.echelon.rows l.known;
  table : l.offering.table ≡ l.fn.offering.table;
  names : l.offering.names.items ≡ l.fn.offering.names.items;
  numbers : l.sealed.numbers.items ≡ l.offering.echelon.numbers;
  same_rows : l.sealed.rows.items ≡ l.offering.echelon.rows;
  rows : AreRows (g.R.Ring.has l.fn.offering.table.ring) (64 * l.number) l.sealed.numbers.items l.sealed.rows.items;
  ready : IsReadyAt (1 + l.number) l.file;
  suits : IfSome (g.D.Disk.trace l.disk) (λ t. Suits l.file t.now.contents);
  keeps : (course : Course) → IsAt (g.R.Ring.modulus l.fn.offering.table.ring) (g.R.Ring.value l.fn.offering.table.ring)
      l.fn.offering.table.columns course l.first l.fn.sealed.numbers.items l.fn.sealed.rows.items (g.D.Disk.trace l.fn.disk) → Keeps course.pages
      (1 + l.first) (g.D.Disk.trace l.fn.disk) (g.D.Disk.trace l.disk);
  at : (course : Course) → IsAt (g.R.Ring.modulus l.fn.offering.table.ring) (g.R.Ring.value l.fn.offering.table.ring)
      l.fn.offering.table.columns course l.first l.fn.sealed.numbers.items l.fn.sealed.rows.items (g.D.Disk.trace l.fn.disk)
      → IsAt (g.R.Ring.modulus l.fn.offering.table.ring) (g.R.Ring.value l.fn.offering.table.ring) l.fn.offering.table.columns course l.number
      l.sealed.numbers.items l.sealed.rows.items (g.D.Disk.trace l.disk);
  untold : g.D.Disk.trace l.fn.disk ≡ None → g.D.Disk.trace l.disk ≡ None;
  faults : g.D.Disk.faults l.fn.disk ≤ g.D.Disk.faults l.disk;
}
