use Rattle.std.proofs.Common.{length}
use Rattle.cert_checker.proofs.AddingEntries.{Adding}
use Rattle.cert_checker.proofs.gathering.add_entries.Given as goal

abbrev pub invariant-loop-entry : goal.invariant-loop-entry
invariant-loop-entry g l =
    Adding (g.R.Ring.modulus l.ring) (g.R.Ring.value l.ring l.c) (g.R.Ring.total l.ring) (g.R.Ring.is_sum l.ring) (g.R.Ring.has l.ring)
    (g.R.Ring.value l.ring) l.initial.sums l.initial.rest l.sums l.rest

abbrev pub decreases-loop-entry : goal.decreases-loop-entry
decreases-loop-entry g l = length l.rest
