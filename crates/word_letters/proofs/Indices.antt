-- The loops over an index.
use Rattle.std.proofs.Common.{◌≡◌, ℕ, zero, suc, ◌+◌, ◌-◌, ◌<◌, ◌≤◌, false, eqb, List, [], ◌∷◌, ◌++◌, length, map, take, drop, get_or, slice_get, sum, Some, refl, sym, ap, ◌∙◌, add-one, arith}
use Rattle.std.proofs.lemmas.List.{append_assoc, length-append, length-map, length-take, map-append, take_more, append-nil}
use Rattle.std.proofs.lemmas.List.Sums.{sum_by-cons, sum_by-take-drop}
use Rattle.std.proofs.lemmas.List.Concat.{flat_map-cons}
use Rattle.std.proofs.Math.Seq.{drop-cons}
use Rattle.std.proofs.lemmas.Bool.Decides.{nat_tests}
use Rattle.std.specs.List.{join_with_byte}
use Rattle.std.specs.Fmt.{decimal}
use Rattle.zeta_model.specs.declared.Letter.{Letter}
use Rattle.zeta_model.specs.declared.Letter.TheVariants.{X, Y}
use Rattle.zeta_model.specs.Indices.{index_from, word_of_index, z_word}
use Rattle.word_letters.specs.Inner.{part_text}

-- one more part at the end of a joined list
pub join-push : (c : ℕ) (xs : List (List ℕ)) (x : List ℕ) → 0 < length xs → join_with_byte c (xs ++ x ∷ []) ≡ join_with_byte c xs ++ (c ∷ x)
join-push c [] x h = absurd (omega arith)
join-push c (y ∷ []) x h = refl
join-push c (y ∷ z ∷ xs) x h = ap (λ r. y ++ (c ∷ r)) (join-push c (z ∷ xs) x (omega arith)) ∙ sym (append_assoc y (c ∷ join_with_byte c (z ∷ xs)) (c ∷ x))

pub z_word-more : (k : ℕ) → 0 < k → z_word (k + 1) ≡ X ∷ z_word k
z_word-more zero h = absurd (omega arith)
z_word-more (suc k) h = rw add-one refl

pub index-step_x : (k i : ℕ) (w : List Letter) → slice_get w i ≡ Some X → index_from k (drop i w) ≡ index_from (k + 1) (drop (suc i) w)
index-step_x k i [] e = cc
index-step_x k zero (X ∷ w) e = refl
index-step_x k zero (Y ∷ w) e = cc
index-step_x k (suc i) (a ∷ w) e = index-step_x k i w e

pub index-step_y : (k i : ℕ) (w : List Letter) → slice_get w i ≡ Some Y → index_from k (drop i w) ≡ k ∷ index_from 1 (drop (suc i) w)
index-step_y k i [] e = cc
index-step_y k zero (X ∷ w) e = cc
index-step_y k zero (Y ∷ w) e = refl
index-step_y k (suc i) (a ∷ w) e = index-step_y k i w e

pub length-z_word : (k : ℕ) → length (z_word k) ≡ k
length-z_word zero = refl
length-z_word (suc zero) = refl
length-z_word (suc (suc k)) = omega (arith, length-z_word (suc k))

-- the step of the loop that goes down an index
module _ (ks : List ℕ) (i : ℕ) (p : 0 < i) (h : i ≤ length ks) where
  pub drop-down : drop (i - 1) ks ≡ get_or ks (i - 1) 0 ∷ drop i ks
  drop-down =
      let below : i - 1 < length ks = omega arith in
      let next : suc (i - 1) ≡ i = omega arith in
      drop-cons ks (i - 1) 0 below ∙ ap (λ j. get_or ks (i - 1) 0 ∷ drop j ks) next

  pub sum-down : sum (drop (i - 1) ks) ≡ get_or ks (i - 1) 0 + sum (drop i ks)
  sum-down = ap sum drop-down ∙ sum_by-cons (λ x. x) (get_or ks (i - 1) 0) (drop i ks)

  pub sum-down-le : get_or ks (i - 1) 0 + sum (drop i ks) ≤ sum ks
  sum-down-le = omega (arith, sum-down, sum_by-take-drop (λ x. x) ks (i - 1))

  pub word-down : (w : List Letter) → w ≡ word_of_index (drop i ks) → z_word (get_or ks (i - 1) 0) ++ w ≡ word_of_index (drop (i - 1) ks)
  word-down w e = ap (λ v. z_word (get_or ks (i - 1) 0) ++ v) e ∙ sym (ap word_of_index drop-down ∙ flat_map-cons z_word (get_or ks (i - 1) 0) (drop i ks))

  pub weight-down : (w : List Letter) → length w ≡ sum (drop i ks) → length (z_word (get_or ks (i - 1) 0) ++ w) ≡ sum (drop (i - 1) ks)
  weight-down w e = omega (arith, length-append (z_word (get_or ks (i - 1) 0)) w, length-z_word (get_or ks (i - 1) 0), sum-down)

pub read-x : (done : List ℕ) (k k' i : ℕ) (w : List Letter) (whole : List ℕ) → k' ≡ k + 1 → slice_get w i ≡ Some X → done ++ index_from k (drop i w) ≡ whole
    → done ++ index_from k' (drop (i + 1) w) ≡ whole
read-x done k k' i w whole ek e h =
    let next : suc i ≡ i + 1 = omega arith in
    (λ j. done ++ (ap (λ n. index_from n (drop (i + 1) w)) ek ∙ ap (λ n. index_from (k + 1) (drop n w)) (sym next) ∙ sym (index-step_x k i w e)) j) ∙ h

pub read-y : (done done' : List ℕ) (k k' i : ℕ) (w : List Letter) (whole : List ℕ) → done' ≡ done ++ k ∷ [] → k' ≡ 1 → slice_get w i ≡ Some Y
    → done ++ index_from k (drop i w) ≡ whole → done' ++ index_from k' (drop (i + 1) w) ≡ whole
read-y done done' k k' i w whole ed ek e h =
    let next : suc i ≡ i + 1 = omega arith in
    (λ j. ed j ++ (ap (λ n. index_from n (drop (i + 1) w)) ek ∙ ap (λ n. index_from 1 (drop n w)) (sym next)) j)
    ∙ append_assoc done (k ∷ []) (index_from 1 (drop (suc i) w)) ∙ ap (λ t. done ++ t) (sym (index-step_y k i w e)) ∙ h

-- one more part of the text
text-first : (front ks : List ℕ) (d : ℕ) → 0 < length ks → (front ++ []) ++ decimal (get_or ks 0 d) ≡ front ++ join_with_byte 44 (map decimal (take 1 ks))
text-first front [] d h = absurd (omega arith)
text-first front (k ∷ ks) d h = ap (λ f. f ++ decimal k) (append-nil front)

text-later : (front : List ℕ) (ks : List ℕ) (i d : ℕ) → 0 < i → i < length ks
    → (front ++ join_with_byte 44 (map decimal (take i ks))) ++ (44 ∷ decimal (get_or ks i d)) ≡ front ++ join_with_byte 44 (map decimal (take (i + 1) ks))
text-later front ks i d p h =
    let long : 0 < length (map decimal (take i ks)) = simp (length-map, length-take) (omega arith) in
    let more : map decimal (take (i + 1) ks) ≡ map decimal (take i ks) ++ decimal (get_or ks i d) ∷ [] =
    ap (map decimal) (take_more ks i d h) ∙ map-append decimal (take i ks) (get_or ks i d ∷ []) in
    append_assoc front _ (44 ∷ decimal (get_or ks i d))
    ∙ ap (λ t. front ++ t) (sym (ap (join_with_byte 44) more ∙ join-push 44 (map decimal (take i ks)) (decimal (get_or ks i d)) long))

not_first : (i : ℕ) → 0 < i → eqb i 0 ≡ false
not_first i h = grind (arith, nat_tests)

pub text-more : (front : List ℕ) (ks : List ℕ) (i d : ℕ) → i < length ks
    → (front ++ join_with_byte 44 (map decimal (take i ks))) ++ part_text (eqb i 0) (get_or ks i d)
    ≡ front ++ join_with_byte 44 (map decimal (take (i + 1) ks))
text-more front ks zero d h = text-first front ks d h
text-more front ks (suc i) d h =
    ap (λ b. (front ++ join_with_byte 44 (map decimal (take (suc i) ks))) ++ part_text b (get_or ks (suc i) d)) (not_first (suc i) (omega arith))
    ∙ text-later front ks (suc i) d (omega arith) h
