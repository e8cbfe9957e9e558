use Rattle.std.proofs.Common.{length}
use Rattle.page_rows.proofs.Making.{Making}
use Rattle.page_rows.proofs.rows.elements_of.Given as goal

abbrev pub invariant-loop-pair : goal.invariant-loop-pair
invariant-loop-pair g l =
    Making g.K.Key.number g.R.Ring.zero (g.R.Ring.has l.ring) (g.R.Ring.value l.ring) (g.R.Ring.modulus l.ring) l.initial.rest l.row l.rest

abbrev pub decreases-loop-pair : goal.decreases-loop-pair
decreases-loop-pair g l = length l.rest
