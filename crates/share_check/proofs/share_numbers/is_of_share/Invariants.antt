use Rattle.std.proofs.Common.{take}
use Rattle.share_check.specs.Inner.{AreOfShare}
use Rattle.share_check.proofs.share_numbers.is_of_share.Given as goal

abbrev pub invariant-loop-entry : goal.invariant-loop-entry
invariant-loop-entry g l = AreOfShare l.id.index l.id.of (take l.entry-index l.entries)
