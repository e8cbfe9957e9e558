use Rattle.std.proofs.Common.{◌≡◌, ◌≤◌, List}
use Rattle.page_codec.specs.declared.page.Page.{Page}
use Rattle.table_build.proofs.Openings.{HasWalked}
use Rattle.table_build.proofs.opening.test_places.Given as goal

abbrev pub invariant-loop-place : goal.invariant-loop-place
invariant-loop-place g l = record {
  walked : (before : List Page) × HasWalked (g.D.Disk.trace l.fn.disk) l.params l.place l.walk before;
  file : l.file ≡ l.fn.file;
  same : g.D.Disk.trace l.disk ≡ g.D.Disk.trace l.fn.disk;
  faults : g.D.Disk.faults l.fn.disk ≤ g.D.Disk.faults l.disk;
}
