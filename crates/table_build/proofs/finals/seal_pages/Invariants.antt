use Rattle.std.proofs.Common.{◌≡◌, ◌+◌, ◌≤◌}
use Rattle.std.specs.Prelude.{IfSome, None}
use Rattle.column_order.specs.Columns.{ColumnList}
use Rattle.page_codec.specs.Places.{block_count}
use Rattle.page_file.specs.Notes.{Suits}
use Rattle.table_model.specs.ListedSpan.{count_of}
use Rattle.table_build.specs.Inner.{Course, AreReady, IsReadyAt, Keeps}
use Rattle.table_build.proofs.finals.seal_pages.Given as goal

abbrev pub invariant-loop-place : goal.invariant-loop-place
invariant-loop-place g l = record {
  ready : IsReadyAt (1 + l.blocks + l.place) l.file;
  suits : IfSome (g.D.Disk.trace l.disk) (λ t. Suits l.file t.now.contents);
  keeps : (columns : ColumnList) (course : Course) → l.blocks ≡ block_count (count_of columns)
      → AreReady (g.R.Ring.modulus l.ring) (g.R.Ring.value l.ring) columns course (1 + l.blocks + l.group.first) l.group.first l.rows.rows
      l.group.combinations.items (g.D.Disk.trace l.fn.disk)
      → Keeps course.pages (1 + l.blocks + l.group.first) (g.D.Disk.trace l.fn.disk) (g.D.Disk.trace l.disk);
  are : (columns : ColumnList) (course : Course) → l.blocks ≡ block_count (count_of columns)
      → AreReady (g.R.Ring.modulus l.ring) (g.R.Ring.value l.ring) columns course (1 + l.blocks + l.group.first) l.group.first l.rows.rows
      l.group.combinations.items (g.D.Disk.trace l.fn.disk)
      → AreReady (g.R.Ring.modulus l.ring) (g.R.Ring.value l.ring) columns course (1 + l.blocks + l.place) l.group.first l.rows.rows
      l.group.combinations.items (g.D.Disk.trace l.disk);
  untold : g.D.Disk.trace l.fn.disk ≡ None → g.D.Disk.trace l.disk ≡ None;
  faults : g.D.Disk.faults l.fn.disk ≤ g.D.Disk.faults l.disk;
}
