use Rattle.std.proofs.Common.{◌≡◌, ◌+◌, ◌≤◌, true, length}
use Rattle.zeta_model.specs.Product.{prod}
use Rattle.zeta_model.specs.Sums.{sum_of}
use Rattle.quasi_product.proofs.SumProductLemmas.{Gaining}
use Rattle.quasi_product.proofs.sums.add_word_product.Given as goal

abbrev pub invariant-loop-v : goal.invariant-loop-v
invariant-loop-v g l =
    Gaining g.R.Ring.zero (g.R.Ring.has l.ring) (g.R.Ring.value l.ring) (g.R.Ring.modulus l.ring) (g.R.Ring.value l.ring l.c)
    (λ v. sum_of (prod g.L.Letters.alphabet l.u v)) (λ v. (g.L.Letters.alphabet.covered v ≡ true)
    × (length l.u + length v ≤ 24)) l.initial.v-iterator l.initial.sum l.sum l.v-iterator
