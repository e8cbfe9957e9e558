use Rattle.std.proofs.Common.{◌≡◌, take}
use Rattle.outside_io.specs.Inner.{replay}
use Rattle.outside_io.proofs.held.held_after.Given as goal

abbrev pub invariant-loop-change : goal.invariant-loop-change
invariant-loop-change l = l.held ≡ (replay l.start (take l.change-index l.changes)).now
