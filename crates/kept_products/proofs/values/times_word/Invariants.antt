use Rattle.std.proofs.Common.{◌+◌, ◌≤◌, length}
use Rattle.zeta_model.specs.Alphabets.{shuffle_of}
use Rattle.zeta_model.specs.Sums.{sum_of}
use Rattle.quasi_product.proofs.SumProductLemmas.{Gaining}
use Rattle.kept_products.specs.Inner.{AreKept}
use Rattle.kept_products.proofs.values.times_word.Given as goal

abbrev pub invariant-loop-w : goal.invariant-loop-w
invariant-loop-w g l = record {
  kept : AreKept g.R.Ring.zero (g.R.Ring.has l.ring) (g.R.Ring.value l.ring) (g.R.Ring.modulus l.ring) l.limit l.store.products.entries l.store.terms;
  gaining : Gaining g.R.Ring.zero (g.R.Ring.has l.ring) (g.R.Ring.value l.ring) (g.R.Ring.modulus l.ring) 1
      (λ w. sum_of (shuffle_of w l.u)) (λ w. length w + length l.u ≤ 24) l.initial.w-iterator l.initial.sum l.sum l.w-iterator;
}
