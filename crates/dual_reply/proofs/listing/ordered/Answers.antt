use Rattle.std.proofs.Common.{◌≡◌, ◌++◌, length, rules, sym, ap, subst, ◌∙◌}
use Rattle.std.specs.List.{IsDistinct}
use Rattle.std.specs.Map.{keys_of}
use Rattle.std.proofs.lemmas.List.{append-nil}
use Rattle.std.proofs.lemmas.List.Sorted.{answers_always}
use Rattle.zeta_model.specs.Sums.{same_word}
use Rattle.dual_reply.proofs.ListingOrder.{increasing-by_weight}
use Rattle.dual_reply.proofs.listing.ordered.Goals as goal

pub returns-clause-increasing : goal.returns-clause-increasing
returns-clause-increasing g c =
    let items = c.loop-word.terms.items in
    let all : items ≡ c.args.sum.now =
    sym (append-nil items) ∙ ap (λ es. items ++ es) (sym c.in-None.ensures.steps.0) ∙ c.loop-word.invariant
    ∙ c.into_iter-word-iterator.ensures.into_iter_gives ∙ c.iter-word-items.ensures.rest in
    increasing-by_weight items c.sort_unstable_by_key.new.self.items
    (subst (λ es. IsDistinct same_word (keys_of es)) (sym all) c.iter-word-items.ensures.terms.once)
    c.sort_unstable_by_key.ensures.permutation
    (c.sort_unstable_by_key.ensures.sorted (λ term. (length term.0, term.0)) (answers_always _ _ _ (λ f a r h k. search rules)))
