-- How a word and its dual are ordered: the first place decides at which their letters differ.
use Rattle.std.proofs.Common.{◌≡◌, ℕ, suc, ◌+◌, ◌-◌, ◌≤◌, Bool, true, false, List, ◌∷◌, length, map, drop, get_or, slice_get, Some, Ordering, Less, Equal, Greater, refl, sym, ap, ◌∙◌, drop_of_length-le, arith}
use Rattle.std.specs.Ordering.{is_gt}
use Rattle.std.proofs.Math.ListN.{get_or-map}
use Rattle.std.proofs.Math.Seq.{drop-cons}
use Rattle.std.proofs.lemmas.List.{get_or-reverse, length-map}
use Rattle.std.proofs.lemmas.Option.{get_or_from_slice_get, slice_get_within}
use Rattle.zeta_model.specs.declared.Letter.{Letter}
use Rattle.zeta_model.specs.declared.Letter.TheVariants.{X, Y}
use Rattle.zeta_model.specs.Words.{word_cmp}
use Rattle.zeta_model.specs.Duality.{other_letter, dual_of, lesser_by, representative_of}
use Rattle.zeta_model.proofs.DualityLaws.{length-dual_of}

letter-dual_of : (w : List Letter) (i j : ℕ) (b : Letter) → i + j + 1 ≡ length w → slice_get w j ≡ Some b
    → get_or (dual_of w) i (other_letter b) ≡ other_letter b
letter-dual_of w i j b n e =
    let same : length (map other_letter w) ≡ length w = length-map w other_letter in
    let place : length (map other_letter w) - 1 - i ≡ j = omega arith in
    get_or-reverse (map other_letter w) i (other_letter b) (omega arith)
    ∙ ap (λ k. get_or (map other_letter w) k (other_letter b)) place
    ∙ get_or-map other_letter w j b
    ∙ ap other_letter (get_or_from_slice_get w j b b e)

-- what is left of both, from a place on
pub order_from : (w : List Letter) (i j : ℕ) (a b : Letter) → i + j + 1 ≡ length w → slice_get w i ≡ Some a → slice_get w j ≡ Some b
    → word_cmp (drop i w) (drop i (dual_of w)) ≡ word_cmp (a ∷ drop (suc i) w) (other_letter b ∷ drop (suc i) (dual_of w))
order_from w i j a b n e f =
    let same = length-dual_of w in
    let first = drop-cons w i a (slice_get_within w i a e) ∙ ap (λ c. c ∷ drop (suc i) w) (get_or_from_slice_get w i a a e) in
    let second = drop-cons (dual_of w) i (other_letter b) (omega arith) ∙ ap (λ c. c ∷ drop (suc i) (dual_of w)) (letter-dual_of w i j b n f) in
    (λ k. word_cmp (first k) (second k))

pub order_same : (a b : Letter) (u v : List Letter) → a ≡ b → word_cmp (a ∷ u) (b ∷ v) ≡ word_cmp u v
order_same X X u v e = refl
order_same Y Y u v e = refl
order_same X Y u v e = cc
order_same Y X u v e = cc

pub order_ended : (w : List Letter) (i : ℕ) → length w ≤ i → is_gt (word_cmp (drop i w) (drop i (dual_of w))) ≡ false
order_ended w i h =
    let same = length-dual_of w in
    let first = drop_of_length-le w h in
    let past : length (dual_of w) ≤ i = omega arith in
    let second = drop_of_length-le (dual_of w) past in
    (λ k. is_gt (word_cmp (first k) (second k)))

pub representative-lesser_dual : (w : List Letter) (b : Bool) → b ≡ is_gt (word_cmp w (dual_of w)) → b ≡ true → dual_of w ≡ representative_of w
representative-lesser_dual w b e t = go (word_cmp w (dual_of w)) (sym e ∙ t)
  where
    go : (o : Ordering) → is_gt o ≡ true → dual_of w ≡ lesser_by o w (dual_of w)
    go Less h = cc
    go Equal h = cc
    go Greater h = refl

pub representative-itself : (w : List Letter) (b : Bool) → b ≡ is_gt (word_cmp w (dual_of w)) → b ≡ false → w ≡ representative_of w
representative-itself w b e t = go (word_cmp w (dual_of w)) (sym e ∙ t)
  where
    go : (o : Ordering) → is_gt o ≡ false → w ≡ lesser_by o w (dual_of w)
    go Less h = refl
    go Equal h = refl
    go Greater h = cc
