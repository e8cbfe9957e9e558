use Rattle.std.proofs.Common.{length}
use Rattle.row_sums.proofs.Adding.{Adding}
use Rattle.row_sums.proofs.sums.add_entries.Given as goal

abbrev pub invariant-loop-entry : goal.invariant-loop-entry
invariant-loop-entry g l =
    Adding g.K.Key.number (g.R.Ring.modulus l.ring) (g.R.Ring.value l.ring l.c) (g.R.Ring.total l.ring) (g.R.Ring.is_sum l.ring) (g.R.Ring.has l.ring)
    (g.R.Ring.value l.ring) l.initial.sums l.initial.rest l.sums l.rest

abbrev pub decreases-loop-entry : goal.decreases-loop-entry
decreases-loop-entry g l = length l.rest
