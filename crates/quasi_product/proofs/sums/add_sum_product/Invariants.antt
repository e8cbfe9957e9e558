use Rattle.std.proofs.Common.{◌≡◌, ◌+◌, ◌≤◌, true, length}
use Rattle.std.specs.Prelude.{All}
use Rattle.std.specs.Map.{keys_of}
use Rattle.quasi_product.specs.SumProducts.{product_with_terms}
use Rattle.zeta_model.specs.Sums.{numbered}
use Rattle.quasi_product.proofs.SumProductLemmas.{Gaining}
use Rattle.quasi_product.proofs.sums.add_sum_product.Given as goal

abbrev pub invariant-loop-u : goal.invariant-loop-u
invariant-loop-u g l =
    Gaining g.R.Ring.zero (g.R.Ring.has l.ring) (g.R.Ring.value l.ring) (g.R.Ring.modulus l.ring) 1
    (product_with_terms g.L.Letters.alphabet (numbered (g.R.Ring.value l.ring) l.b)) (λ u. (g.L.Letters.alphabet.covered u ≡ true)
    × All (λ v. length u + length v ≤ 24) (keys_of l.b)) l.initial.u-iterator l.initial.sum l.sum l.u-iterator
