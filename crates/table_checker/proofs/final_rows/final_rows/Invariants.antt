use Rattle.std.proofs.Common.{◌≡◌, ◌≤◌}
use Rattle.table_checker.proofs.PageWalks.{HasRead}
use Rattle.table_checker.proofs.final_rows.final_rows.Given as goal

abbrev pub invariant-loop-place : goal.invariant-loop-place
invariant-loop-place g l = record {
  read : HasRead g.R.Ring.zero (g.R.Ring.has l.ring) (g.R.Ring.value l.ring) (g.D.Disk.trace l.fn.disk) l.params l.place l.walk l.finals.rows.items
      l.finals.combinations.items;
  file : l.file ≡ l.fn.file;
  same : g.D.Disk.trace l.disk ≡ g.D.Disk.trace l.fn.disk;
  faults : g.D.Disk.faults l.fn.disk ≤ g.D.Disk.faults l.disk;
}
