use Rattle.std.proofs.Common.{◌<◌, ◌∷◌, length}
use Rattle.zeta_model.specs.declared.Letter.TheVariants.{X}
use Rattle.zeta_model.specs.Sums.{single}
use Rattle.quasi_product.proofs.SumProductLemmas.{Gaining}
use Rattle.kept_products.proofs.regular.add_behind_x.Given as goal

abbrev pub invariant-loop-word : goal.invariant-loop-word
invariant-loop-word g l =
    Gaining g.R.Ring.zero (g.R.Ring.has l.ring) (g.R.Ring.value l.ring) (g.R.Ring.modulus l.ring) (g.R.Ring.value l.ring l.c) (λ w. single (X ∷ w))
    (λ w. length w < 24)
    l.initial.word-iterator l.initial.sum l.sum l.word-iterator
