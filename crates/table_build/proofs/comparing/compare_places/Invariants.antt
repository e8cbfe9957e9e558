use Rattle.std.proofs.Common.{◌≡◌, ◌+◌, ◌≤◌}
use Rattle.std.specs.Prelude.{IsTrue, IfSome}
use Rattle.column_order.specs.Columns.{ColumnList}
use Rattle.page_codec.specs.Places.{block_count}
use Rattle.page_file.specs.Notes.{Suits, count_of as page_count}
use Rattle.table_model.specs.ListedSpan.{count_of}
use Rattle.table_build.specs.Inner.{Course, AreFirstUpTo, AreRecorded}
use Rattle.table_build.proofs.comparing.compare_places.Given as goal

abbrev pub invariant-loop-place : goal.invariant-loop-place
invariant-loop-place g l = record {
  live : IsTrue l.file.is_live;
  suits : IfSome (g.D.Disk.trace l.disk) (λ t. Suits l.file t.now.contents);
  count : page_count l.file ≡ page_count l.fn.file;
  same : l.file ≡ l.fn.file;
  disk : g.D.Disk.trace l.disk ≡ g.D.Disk.trace l.fn.disk;
  first : (columns : ColumnList) (course : Course) → l.blocks ≡ block_count (count_of columns)
      → IfSome (g.D.Disk.trace l.fn.disk) (λ t. AreRecorded (g.R.Ring.modulus l.ring) (g.R.Ring.value l.ring) columns course l.group.first l.rows.rows
      l.group.combinations.items)
      → AreFirstUpTo course.pages (1 + l.blocks + l.group.first) (g.D.Disk.trace l.fn.disk)
      → AreFirstUpTo course.pages (1 + l.blocks + l.place) (g.D.Disk.trace l.fn.disk);
  faults : g.D.Disk.faults l.fn.disk ≤ g.D.Disk.faults l.disk;
}
