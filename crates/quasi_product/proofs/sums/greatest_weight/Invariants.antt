use Rattle.std.proofs.Common.{◌≡◌, ◌≤◌, max}
use Rattle.quasi_product.proofs.GreatestWeights.{greatest_length}
use Rattle.quasi_product.proofs.sums.greatest_weight.Given as goal

abbrev pub invariant-loop-word : goal.invariant-loop-word
invariant-loop-word g l = (l.greatest ≤ 24) × (max l.greatest (greatest_length l.word-iterator) ≡ greatest_length l.initial.word-iterator)
