use Rattle.zeta_model.specs.Regularise.{reg_of}
use Rattle.quasi_product.proofs.SumProductLemmas.{Gaining}
use Rattle.kept_products.specs.Inner.{AreKept}
use Rattle.kept_products.proofs.regular.regularised.Given as goal

abbrev pub invariant-loop-word : goal.invariant-loop-word
invariant-loop-word g l = record {
  kept : AreKept g.R.Ring.zero (g.R.Ring.has l.ring) (g.R.Ring.value l.ring) (g.R.Ring.modulus l.ring) l.limit l.store.products.entries l.store.terms;
  gaining : Gaining g.R.Ring.zero (g.R.Ring.has l.ring) (g.R.Ring.value l.ring) (g.R.Ring.modulus l.ring) 1 (reg_of (g.R.Ring.modulus l.ring))
      (λ w. Unit {0}) l.initial.word-iterator l.initial.sum l.sum l.word-iterator;
}
