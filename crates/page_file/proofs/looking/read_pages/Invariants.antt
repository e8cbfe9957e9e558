use Rattle.std.proofs.Common.{◌≡◌, ◌≤◌, ◌+◌, ◌-◌, length}
use Rattle.std.specs.Prelude.{IfSome}
use Rattle.page_file.specs.Notes.{end_of}
use Rattle.page_file.specs.Inner.{Looks}
use Rattle.page_file.proofs.looking.read_pages.Given as goal

abbrev pub invariant-loop-fault : goal.invariant-loop-fault
invariant-loop-fault g l = record {
  within : end_of l.file + length l.window ≤ l.len;
  told : IfSome (g.D.Disk.trace l.fn.disk) (λ t. Looks l.len l.file l.window t.now.contents);
  ready : l.file.is_ready ≡ l.fn.file.is_ready;
  live : l.file.is_live ≡ l.fn.file.is_live;
  same : g.D.Disk.trace l.disk ≡ g.D.Disk.trace l.fn.disk;
  faults : g.D.Disk.faults l.fn.disk ≤ g.D.Disk.faults l.disk;
}

abbrev pub decreases-loop-fault : goal.decreases-loop-fault
decreases-loop-fault g l = l.len - end_of l.file
