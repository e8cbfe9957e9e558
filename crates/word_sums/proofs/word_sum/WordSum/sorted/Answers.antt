use Rattle.std.proofs.Common.{◌≡◌, ◌++◌, rules, sym, ap, subst, ◌∙◌}
use Rattle.std.specs.List.{IsDistinct}
use Rattle.std.specs.Map.{keys_of}
use Rattle.std.proofs.lemmas.List.{append-nil}
use Rattle.std.proofs.lemmas.List.Sorted.{answers_always}
use Rattle.zeta_model.specs.Sums.{same_word}
use Rattle.word_sums.proofs.Sorting.{increasing-IsPermutation}
use Rattle.word_sums.proofs.word_sum.WordSum.sorted.Goals as goal

pub returns-clause-sorted : goal.returns-clause-sorted
returns-clause-sorted g c =
    let items = c.loop-word.terms.items in
    let all : items ≡ c.self.inside.terms.entries =
    sym (append-nil items) ∙ ap (λ es. items ++ es) (sym c.in-None.ensures.steps.0) ∙ c.loop-word.invariant
    ∙ c.into_iter-word-iterator.ensures.into_iter_gives ∙ c.iter-word-items.ensures.rest in
    increasing-IsPermutation items c.sort_unstable_by_key.new.self.items c.sort_unstable_by_key.ensures.permutation
    (subst (λ es. IsDistinct same_word (keys_of es)) (sym all) c.self.invariant.once)
    (c.sort_unstable_by_key.ensures.sorted (λ term. term.0) (answers_always _ _ _ (λ f a r h k. search rules)))
