-- Two lists compared factor by factor from a place on.
use Rattle.std.proofs.Common.{◌≡◌, ℕ, ◌+◌, ◌≤◌, min, suc, ◌⊎◌, inl, inr, true, false, Some, List, [], ◌∷◌, length, drop, slice_get, refl, sym, ap, ◌∙◌, arith, drop-cons, length-drop}
use Rattle.std.proofs.lemmas.Option.{slice_get_within, get_or_from_slice_get}
use Rattle.std.proofs.lemmas.Bool.{cases_lt}
use Rattle.std.specs.declared.cmp.Ordering.{Ordering}
use Rattle.std.specs.declared.cmp.Ordering.TheVariants.{Less, Equal, Greater}
use Rattle.std.specs.Ordering.{nat_cmp, is_ne, ordering_then}
use Rattle.std.specs.Cmp.{nat_cmp_is}
use Rattle.std.specs.Cmp.Lexicographic.{slice_cmp}
use Rattle.zeta_model.specs.declared.Letter.{Letter}
use Rattle.zeta_model.specs.Words.{word_cmp}
use Rattle.column_order.proofs.LeadLaws.{nat_cmp-add}

pub drop-at : {A : Type 0} (xs : List A) (i : ℕ) (x : A) → slice_get xs i ≡ Some x → drop i xs ≡ x ∷ drop (i + 1) xs
drop-at xs i x e =
    let next : suc i ≡ i + 1 = omega arith in
    drop-cons xs i x (slice_get_within xs i x e) ∙ (λ j. get_or_from_slice_get xs i x x e j ∷ drop (next j) xs)

pub is_ne-true : (o : Ordering) → is_ne o ≡ true → ¬ (o ≡ Equal)
is_ne-true Less e h = cc
is_ne-true Equal e h = cc
is_ne-true Greater e h = cc

pub is_ne-false : (o : Ordering) → is_ne o ≡ false → o ≡ Equal
is_ne-false Less e = cc
is_ne-false Equal e = refl
is_ne-false Greater e = cc

compared : (p q : List (List Letter)) (i : ℕ) (u v : List Letter) (o : Ordering) → slice_get p i ≡ Some u → slice_get q i ≡ Some v → o ≡ word_cmp u v
    → slice_cmp word_cmp (drop i p) (drop i q) ≡ ordering_then o (slice_cmp word_cmp (drop (i + 1) p) (drop (i + 1) q))
compared p q i u v o e f g =
    (λ j. slice_cmp word_cmp (drop-at p i u e j) (drop-at q i v f j))
    ∙ ap (λ t. ordering_then t (slice_cmp word_cmp (drop (i + 1) p) (drop (i + 1) q))) (sym g)

pub compared_differs : (p q : List (List Letter)) (i : ℕ) (u v : List Letter) (o : Ordering) → slice_get p i ≡ Some u → slice_get q i ≡ Some v
    → o ≡ word_cmp u v → ¬ (o ≡ Equal) → slice_cmp word_cmp (drop i p) (drop i q) ≡ slice_cmp word_cmp p q → o ≡ slice_cmp word_cmp p q
compared_differs p q i u v o e f g n h = decided o n ∙ sym (compared p q i u v o e f g) ∙ h
  where
    decided : (o : Ordering) → ¬ (o ≡ Equal) → o ≡ ordering_then o (slice_cmp word_cmp (drop (i + 1) p) (drop (i + 1) q))
    decided Less n = refl
    decided Equal n = absurd (n refl)
    decided Greater n = refl

pub compared_same : (p q : List (List Letter)) (i : ℕ) (u v : List Letter) (o : Ordering) → slice_get p i ≡ Some u → slice_get q i ≡ Some v
    → o ≡ word_cmp u v → o ≡ Equal → slice_cmp word_cmp (drop i p) (drop i q) ≡ slice_cmp word_cmp p q
    → slice_cmp word_cmp (drop (i + 1) p) (drop (i + 1) q) ≡ slice_cmp word_cmp p q
compared_same p q i u v o e f g n h =
    sym (compared p q i u v o e f g ∙ ap (λ t. ordering_then t (slice_cmp word_cmp (drop (i + 1) p) (drop (i + 1) q))) n) ∙ h

one_ended : (xs ys : List (List Letter)) → (length xs ≡ 0) ⊎ (length ys ≡ 0) → slice_cmp word_cmp xs ys ≡ nat_cmp (length xs) (length ys)
one_ended [] [] h = refl
one_ended [] (y ∷ ys) h = nat_cmp_is 0 (suc (length ys)) Less (omega arith)
one_ended (x ∷ xs) [] h = nat_cmp_is (suc (length xs)) 0 Greater (omega arith)
one_ended (x ∷ xs) (y ∷ ys) (inl h) = absurd (omega arith)
one_ended (x ∷ xs) (y ∷ ys) (inr h) = absurd (omega arith)

-- one list has ended at the place, and there was no difference before it
pub compared_end : (p q : List (List Letter)) (i : ℕ) → i ≤ length p → i ≤ length q → (length p ≤ i) ⊎ (length q ≤ i)
    → slice_cmp word_cmp (drop i p) (drop i q) ≡ slice_cmp word_cmp p q → nat_cmp (length p) (length q) ≡ slice_cmp word_cmp p q
compared_end p q i hp hq h e =
    let first : length p ≡ i + length (drop i p) = omega (arith, length-drop i p) in
    let second : length q ≡ i + length (drop i q) = omega (arith, length-drop i q) in
    (λ j. nat_cmp (first j) (second j)) ∙ nat_cmp-add i (length (drop i p)) (length (drop i q)) ∙ sym (one_ended (drop i p) (drop i q) (ended h)) ∙ e
  where
    ended : (length p ≤ i) ⊎ (length q ≤ i) → (length (drop i p) ≡ 0) ⊎ (length (drop i q) ≡ 0)
    ended (inl h) = inl (omega (arith, length-drop i p))
    ended (inr h) = inr (omega (arith, length-drop i q))

pub min_reached : (m n i : ℕ) → i ≡ min m n → (m ≤ i) ⊎ (n ≤ i)
min_reached m n i e = elim (cases_lt m n) [ inl h ↦ inl (omega arith) | inr h ↦ inr (omega arith) ]
