use Rattle.std.proofs.Common.{◌≡◌, suc, ◌+◌, ◌-◌, Bool, true, false, not, List, ◌∷◌, length, drop, refl, sym, ap, ◌∙◌, add-one, arith}
use Rattle.std.specs.Ordering.{is_gt}
use Rattle.zeta_model.specs.declared.Letter.{Letter}
use Rattle.zeta_model.specs.declared.Letter.TheVariants.{X, Y}
use Rattle.zeta_model.specs.Duality.{dual_of}
use Rattle.zeta_model.specs.Words.{word_cmp}
use Rattle.zeta_model.specs.contracts.Letter.{the_type}
use Rattle.duality_map.proofs.DualOrder.{order_from, order_same}
use Rattle.duality_map.proofs.duality.has_lesser_dual.Goals as goal
use denote.Enum.Bare.{sameb}

same_letters : (a b : Letter) (r : Bool) → r ≡ not (sameb the_type a b) → r ≡ false → a ≡ b
same_letters X X r e f = refl
same_letters Y Y r e f = refl
same_letters X Y r e f = let t : true ≡ false = sym e ∙ f in cc
same_letters Y X r e f = let t : true ≡ false = sym e ∙ f in cc

other_letters : (a b : Letter) (r s : Bool) (u v : List Letter) → r ≡ not (sameb the_type a b) → r ≡ true → s ≡ sameb the_type a Y
    → s ≡ is_gt (word_cmp (a ∷ u) (b ∷ v))
other_letters X Y r s u v e f g = g
other_letters Y X r s u v e f g = g
other_letters X X r s u v e f g = let t : false ≡ true = sym e ∙ f in cc
other_letters Y Y r s u v e f g = let t : false ≡ true = sym e ∙ f in cc

pub returns-then-ne : goal.returns-then-ne
returns-then-ne c =
    let w = c.args.w in
    let i = c.loop-place.place in
    let u = drop (suc i) w in
    let v = drop (suc i) (dual_of w) in
    let a = c.letter-letter.result in
    let both : i + (c.weight.result - 1 - i) + 1 ≡ length w =
    omega (arith, c.loop-place-test.true, c.weight.ensures.length, c.weight-place-end.ensures.length) in
    other_letters a c.other_letter.result c.ne.result c.eq.result u v c.ne.ensures c.if-ne.true c.eq.ensures
    ∙ ap is_gt ((λ k. word_cmp (a ∷ u) (c.other_letter.ensures k ∷ v))
    ∙ sym (order_from w i (c.weight.result - 1 - i) a c.letter.result both c.letter-letter.ensures c.letter.ensures) ∙ c.loop-place.invariant)

pub loop-place-preserved : goal.loop-place-preserved
loop-place-preserved c =
    let w = c.args.w in
    let i = c.loop-place.place in
    let u = drop (suc i) w in
    let v = drop (suc i) (dual_of w) in
    let a = c.letter-letter.result in
    let both : i + (c.weight.result - 1 - i) + 1 ≡ length w =
    omega (arith, c.loop-place-test.true, c.weight.ensures.length, c.weight-place-end.ensures.length) in
    (λ k. word_cmp (drop (add-one i k) w) (drop (add-one i k) (dual_of w)))
    ∙ sym (order_same a c.other_letter.result u v (same_letters a c.other_letter.result c.ne.result c.ne.ensures c.if-ne.false))
    ∙ (λ k. word_cmp (a ∷ u) (c.other_letter.ensures k ∷ v))
    ∙ sym (order_from w i (c.weight.result - 1 - i) a c.letter.result both c.letter-letter.ensures c.letter.ensures)
    ∙ c.loop-place.invariant
