use Rattle.std.proofs.Common.{◌≤◌, ◌+◌, ◌-◌, List, length}
use Rattle.page_codec.specs.declared.page.Page.{Page}
use Rattle.page_codec.specs.Places.{block_count}
use Rattle.table_migration.specs.Inner.{AreCopied}
use Rattle.table_migration.proofs.migrating.copy_pages.Given as goal

abbrev pub invariant-pages : goal.invariant-pages
invariant-pages g l = record {
  copied : (pages : List Page) × AreCopied l.params pages l.walk l.file (g.S.Source.left l.fn.source) (g.S.Source.left l.source) (g.D.Disk.trace l.fn.disk)
      (g.D.Disk.trace l.disk);
  disk_faults : g.D.Disk.faults l.fn.disk ≤ g.D.Disk.faults l.disk;
  source_faults : g.S.Source.faults l.fn.source ≤ g.S.Source.faults l.source;
}

abbrev pub decreases-pages : goal.decreases-pages
decreases-pages g l = (block_count l.walk.relations + 40) - length l.file.gates
