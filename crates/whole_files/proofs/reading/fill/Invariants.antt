use Rattle.std.proofs.Common.{◌≡◌, ◌≤◌, ◌-◌, length, take, drop}
use Rattle.std.specs.Prelude.{IfSome}
use Rattle.whole_files.proofs.reading.fill.Given as goal

abbrev pub invariant-loop-count : goal.invariant-loop-count
invariant-loop-count g l = record {
  within : l.count ≤ length l.buf;
  long : length l.buf ≡ length l.fn.buf;
  bytes : IfSome (g.D.Disk.trace l.fn.disk) (λ t. take l.count l.buf ≡ take l.count (drop l.at t.now.contents));
  same : g.D.Disk.trace l.disk ≡ g.D.Disk.trace l.fn.disk;
  faults : g.D.Disk.faults l.fn.disk ≤ g.D.Disk.faults l.disk;
}

abbrev pub decreases-loop-count : goal.decreases-loop-count
decreases-loop-count g l = length l.initial.buf - l.count
