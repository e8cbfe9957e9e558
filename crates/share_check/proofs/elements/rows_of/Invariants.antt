use Rattle.std.proofs.Common.{take}
use Rattle.share_check.specs.Inner.{AreRead, rows_of}
use Rattle.share_check.proofs.elements.rows_of.Given as goal

abbrev pub invariant-loop-entry : goal.invariant-loop-entry
invariant-loop-entry g l =
    AreRead g.R.Ring.zero (g.R.Ring.has l.ring) (g.R.Ring.value l.ring) (take l.entry-index (rows_of l.entries)) l.rows.items
