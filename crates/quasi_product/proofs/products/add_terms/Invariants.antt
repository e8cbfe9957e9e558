use Rattle.std.proofs.Common.{length}
use Rattle.zeta_model.specs.Sums.{single}
use Rattle.quasi_product.proofs.SumProductLemmas.{Gaining}
use Rattle.quasi_product.proofs.products.add_terms.Given as goal

abbrev pub invariant-loop-term : goal.invariant-loop-term
invariant-loop-term g l = Gaining g.R.Ring.zero (g.R.Ring.has l.ring) (g.R.Ring.value l.ring) (g.R.Ring.modulus l.ring) 1 single
    (λ w. Unit {0}) l.terms l.initial.sum l.sum l.rest

abbrev pub decreases-loop-term : goal.decreases-loop-term
decreases-loop-term g l = length l.rest
