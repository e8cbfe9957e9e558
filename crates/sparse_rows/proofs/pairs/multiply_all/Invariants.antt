use Rattle.std.proofs.Common.{◌≡◌}
use Rattle.sparse_rows.proofs.Multiplying.{changed_below}
use Rattle.sparse_rows.proofs.pairs.multiply_all.Given as goal

abbrev pub invariant-loop-pair : goal.invariant-loop-pair
invariant-loop-pair g l = l.pair-items ≡ changed_below (λ e. (e.0, g.R.Ring.mul l.ring l.c e.1)) l.fn.pairs.items l.pair-index
