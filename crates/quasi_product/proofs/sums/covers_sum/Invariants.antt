use Rattle.std.proofs.Common.{◌≡◌, true}
use Rattle.std.specs.Prelude.{All, ◌↔◌}
use Rattle.std.specs.Map.{keys_of}
use Rattle.quasi_product.proofs.sums.covers_sum.Given as goal

abbrev pub invariant-loop-word : goal.invariant-loop-word
invariant-loop-word g l =
    All (λ w. g.L.Letters.alphabet.covered w ≡ true) (keys_of l.word-iterator) ↔ All (λ w. g.L.Letters.alphabet.covered w ≡ true)
    (keys_of l.initial.word-iterator)
