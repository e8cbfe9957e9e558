use Rattle.std.proofs.Common.{◌+◌, length}
use Rattle.sparse_rows.proofs.Merging.{Merging}
use Rattle.sparse_rows.proofs.pairs.Pairs.add_scaled.Given as goal

abbrev pub invariant-loop-key : goal.invariant-loop-key
invariant-loop-key g l =
    Merging g.K.Key.number g.R.Ring.zero (g.R.Ring.has l.ring) (g.R.Ring.value l.ring) (g.R.Ring.modulus l.ring)
    (g.R.Ring.value l.ring l.c) l.initial.left l.initial.right l.sum.items l.left l.right

abbrev pub decreases-loop-key : goal.decreases-loop-key
decreases-loop-key g l = length l.left + length l.right
