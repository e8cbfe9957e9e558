use Rattle.std.proofs.Common.{◌≡◌, ◌++◌, length, map}
use Rattle.quasi_product.specs.Inner.{FitBehind}
use Rattle.quasi_product.proofs.merging.add_behind.Given as goal

abbrev pub invariant-loop-term : goal.invariant-loop-term
invariant-loop-term g l =
    FitBehind 24 l.front l.rest × (l.terms.items ++ map (λ t. (l.front ++ t.0, t.1)) l.rest
    ≡ l.initial.terms.items ++ map (λ t. (l.front ++ t.0, t.1)) l.list)

abbrev pub decreases-loop-term : goal.decreases-loop-term
decreases-loop-term g l = length l.rest
