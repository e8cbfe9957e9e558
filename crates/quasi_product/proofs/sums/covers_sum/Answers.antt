use Rattle.std.proofs.Common.{◌≡◌, true, List, sym, subst, ◌∙◌, arith, rules}
use Rattle.std.specs.Prelude.{All}
use Rattle.std.specs.Map.{keys_of}
use mathlib.Core.Bool.{true≢false}
use Rattle.std.proofs.lemmas.List.Elements.{All-head, All-tail, All-cons}
use Rattle.zeta_model.specs.declared.Letter.{Letter}
use Rattle.quasi_product.proofs.sums.covers_sum.Goals as goal

pub loop-word-preserved : goal.loop-word-preserved
loop-word-preserved g c =
    let P : List Letter → Type 0 = λ w. g.L.Letters.alphabet.covered w ≡ true in
    let here : P c.in-Some.word.now = sym c.covers.ensures ∙ c.if-not-covers.false in (
      (λ rest. c.loop-word.invariant.0
          (subst (λ es. All P (keys_of es)) (sym c.in-Some.ensures.steps) (All-cons P c.in-Some.word.now (keys_of c.next.new.self) here rest))),
      (λ whole. All-tail P c.in-Some.word.now (keys_of c.next.new.self)
          (subst (λ es. All P (keys_of es)) c.in-Some.ensures.steps (c.loop-word.invariant.1 whole))),
    )

pub returns-then-not-covers : goal.returns-then-not-covers
returns-then-not-covers g c =
    let P : List Letter → Type 0 = λ w. g.L.Letters.alphabet.covered w ≡ true in
    let all = sym (c.into_iter-word-iterator.ensures.into_iter_gives ∙ c.iter-word-items.ensures.rest) in (
      (λ is. absurd (true≢false (sym is))),
      (λ whole.
          let here : P c.in-Some.word.now =
          All-head P c.in-Some.word.now (keys_of c.next.new.self)
          (subst (λ es. All P (keys_of es)) c.in-Some.ensures.steps (c.loop-word.invariant.1 (subst (λ es. All P (keys_of es)) all whole))) in
          absurd (true≢false (sym here ∙ sym c.covers.ensures ∙ c.if-not-covers.true))),
    )

pub returns : goal.returns
returns g c =
    let P : List Letter → Type 0 = λ w. g.L.Letters.alphabet.covered w ≡ true in
    let all = c.into_iter-word-iterator.ensures.into_iter_gives ∙ c.iter-word-items.ensures.rest in
    let none : All P (keys_of c.loop-word.word-iterator) =
    subst (λ es. All P (keys_of es)) (sym c.in-None.ensures.steps.0) (λ k d h. absurd (omega arith)) in
    ((λ is. subst (λ es. All P (keys_of es)) all (c.loop-word.invariant.0 none)), (λ whole. search rules))
