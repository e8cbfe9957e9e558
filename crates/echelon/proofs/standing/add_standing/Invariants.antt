use Rattle.std.proofs.Common.{length}
use Rattle.echelon.proofs.Remains.{Remaining}
use Rattle.echelon.proofs.standing.add_standing.Given as goal

abbrev pub invariant-loop-entry : goal.invariant-loop-entry
invariant-loop-entry g l =
    Remaining (g.R.Ring.modulus l.ring) (g.R.Ring.total l.ring) (g.R.Ring.is_sum l.ring) (g.R.Ring.has l.ring)
    (g.R.Ring.value l.ring) l.standing l.initial.sums l.initial.rest l.sums l.rest

abbrev pub decreases-loop-entry : goal.decreases-loop-entry
decreases-loop-entry g l = length l.rest
