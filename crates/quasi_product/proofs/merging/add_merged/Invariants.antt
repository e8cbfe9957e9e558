use Rattle.std.proofs.Common.{◌+◌, length}
use Rattle.quasi_product.proofs.MergeLemmas.{Merging}
use Rattle.quasi_product.proofs.merging.add_merged.Given as goal

abbrev pub invariant-loop-term : goal.invariant-loop-term
invariant-loop-term g l =
    Merging (g.R.Ring.has l.ring) (g.R.Ring.value l.ring) (g.R.Ring.modulus l.ring) l.front l.front l.left l.right l.terms.items l.xs l.ys

abbrev pub decreases-loop-term : goal.decreases-loop-term
decreases-loop-term g l = length l.xs + length l.ys
