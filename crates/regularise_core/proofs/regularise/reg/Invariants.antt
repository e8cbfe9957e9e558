use Rattle.zeta_model.specs.Regularise.{reg_of}
use Rattle.quasi_product.proofs.SumProductLemmas.{Gaining}
use Rattle.regularise_core.proofs.regularise.reg.Given as goal

abbrev pub invariant-loop-word : goal.invariant-loop-word
invariant-loop-word g l =
    Gaining g.R.Ring.zero (g.R.Ring.has l.ring) (g.R.Ring.value l.ring) (g.R.Ring.modulus l.ring) 1 (reg_of (g.R.Ring.modulus l.ring)) (λ w. Unit {0})
    l.initial.word-iterator l.initial.sum l.sum l.word-iterator
