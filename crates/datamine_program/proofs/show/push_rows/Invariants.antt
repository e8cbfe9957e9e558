use Rattle.std.proofs.Common.{◌≡◌, ◌≤◌, string_bytes}
use Rattle.datamine_program.proofs.ShownPages.{HasShown}
use Rattle.datamine_program.proofs.show.push_rows.Given as goal

abbrev pub invariant-loop-place : goal.invariant-loop-place
invariant-loop-place g l = record {
  shown : HasShown (g.D.Disk.trace l.fn.disk) l.params l.columns.list (string_bytes l.fn.lines) l.place l.walk (string_bytes l.lines);
  file : l.file ≡ l.fn.file;
  same : g.D.Disk.trace l.disk ≡ g.D.Disk.trace l.fn.disk;
  faults : g.D.Disk.faults l.fn.disk ≤ g.D.Disk.faults l.disk;
}
