use Rattle.std.proofs.Common.{◌≡◌, ◌≤◌, length, max, subst, ap, ◌∙◌, arith}
use Rattle.std.specs.Prelude.{All}
use Rattle.std.specs.Map.{keys_of}
use Rattle.quasi_product.specs.SumProducts.{HasWeight}
use Rattle.quasi_product.proofs.GreatestWeights.{greatest_length-first, greatest_length-none, greatest_length-most, greatest_length-reached, ord_max-nat_cmp}
use Rattle.quasi_product.proofs.sums.greatest_weight.Goals as goal

pub loop-word-preserved : goal.loop-word-preserved
loop-word-preserved g c =
    let first = greatest_length-first c.in-Some.word.now c.in-Some.field-0-1.now c.loop-word.word-iterator c.next.new.self c.in-Some.ensures.steps in
    let greater : c.max-greatest.result ≡ max c.loop-word.greatest (length c.in-Some.word.now) =
    c.max-greatest.ensures ∙ ord_max-nat_cmp c.loop-word.greatest c.weight.result ∙ ap (max c.loop-word.greatest) c.weight.ensures.length in
    (omega (arith, c.weight.ensures), omega (arith, first, c.loop-word.invariant.1))

pub returns-clause-most : goal.returns-clause-most
returns-clause-most g c =
    let all = c.into_iter-word-iterator.ensures.into_iter_gives ∙ c.iter-word-items.ensures.rest in
    let none = greatest_length-none c.loop-word.word-iterator c.in-None.ensures.steps.0 in
    subst (λ es. All (λ u. length u ≤ c.loop-word.greatest) (keys_of es)) all
    (greatest_length-most c.into_iter-word-iterator.result c.loop-word.greatest (omega (arith, none, c.loop-word.invariant.1)))

pub returns-clause-reached : goal.returns-clause-reached
returns-clause-reached g c p =
    let all = c.into_iter-word-iterator.ensures.into_iter_gives ∙ c.iter-word-items.ensures.rest in
    let none = greatest_length-none c.loop-word.word-iterator c.in-None.ensures.steps.0 in
    subst (λ es. HasWeight es c.loop-word.greatest) all
    (greatest_length-reached c.into_iter-word-iterator.result c.loop-word.greatest (omega (arith, none, c.loop-word.invariant.1)) p)
