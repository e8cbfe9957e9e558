-- The numbers that a list of elements stands for.
use Rattle.std.proofs.Common.{◌≡◌, ◌≢◌, ℕ, zero, suc, inl, inr, ◌<◌, ◌≤◌, List, [], ◌∷◌, ◌++◌, map, length, set, get_or, sym, ◌∙◌, ap, arith}
use Rattle.std.proofs.lemmas.List.{map-set, map-append, length-map, get_or-map, get_or-set_same, get_or-set_other, get_or_append_left, get_or_past}
use Rattle.std.proofs.lemmas.List.{length-append}
use Rattle.std.specs.List.{All}
use Rattle.std.proofs.lemmas.List.Elements.{All-append}
use Rattle.std.proofs.lemmas.Bool.{cases_order}
use Rattle.std.proofs.Math.Seq.{get_or-append_seam}
use Rattle.cert_checker.specs.Inner.{numbers_of}

module _ {A : Type 0} (value : A → ℕ) (xs : List A) where
  pub numbers_of-get : (i : ℕ) (d : A) → i < length xs → value (get_or xs i d) ≡ numbers_of value xs i
  numbers_of-get i d h = sym (get_or-map value xs i d 0 h)

  pub numbers_of-past : (i : ℕ) → length xs ≤ i → numbers_of value xs i ≡ 0
  numbers_of-past i h = get_or_past (map value xs) i 0 (omega (arith, length-map xs value))

  pub numbers_of-set_same : (i : ℕ) (x : A) → i < length xs → numbers_of value (set xs i x) i ≡ value x
  numbers_of-set_same i x h =
      ap (λ ys. get_or ys i 0) (map-set value xs i x) ∙ get_or-set_same (map value xs) i (value x) 0 (omega (arith, length-map xs value))

  pub numbers_of-set_other : (i q : ℕ) (x : A) → q ≢ i → numbers_of value (set xs i x) q ≡ numbers_of value xs q
  numbers_of-set_other i q x ne = ap (λ ys. get_or ys q 0) (map-set value xs i x) ∙ get_or-set_other (map value xs) i q (value x) 0 ne

  pub numbers_of-push_before : (x : A) (i : ℕ) → i < length xs → numbers_of value (xs ++ x ∷ []) i ≡ numbers_of value xs i
  numbers_of-push_before x i h = ap (λ ys. get_or ys i 0) (map-append value xs (x ∷ []))
      ∙ get_or_append_left (map value xs) (value x ∷ []) 0 i (omega (arith, length-map xs value))

  pub numbers_of-push_last : (x : A) → numbers_of value (xs ++ x ∷ []) (length xs) ≡ value x
  numbers_of-push_last x =
      ap (λ ys. get_or ys (length xs) 0) (map-append value xs (x ∷ []))
      ∙ ap (λ k. get_or (map value xs ++ value x ∷ []) k 0) (sym (length-map xs value)) ∙ get_or-append_seam (map value xs) (value x) [] 0

  -- zeros and one more are zeros
  pub zeros_push : (x : A) → ((i : ℕ) → numbers_of value xs i ≡ 0) → value x ≡ 0 → (i : ℕ) → numbers_of value (xs ++ x ∷ []) i ≡ 0
  zeros_push x none h i = elim (cases_order i (length xs)) [
    | inl same ↦ ap (numbers_of value (xs ++ x ∷ [])) same ∙ numbers_of-push_last x ∙ h
    | inr o ↦ elim o [
      | inl less ↦ numbers_of-push_before x i less ∙ none i
      | inr more ↦ get_or_past (map value (xs ++ x ∷ [])) i 0 (omega (arith, length-map (xs ++ x ∷ []) value, length-append xs (x ∷ [])))
    ]
  ]

All-one : {A : Type 0} (P : A → Type 0) (x : A) → P x → All P (x ∷ [])
All-one P x h zero d l = h
All-one P x h (suc k) d l = absurd (omega arith)

pub All-push : {A : Type 0} (P : A → Type 0) (xs : List A) (x : A) → All P xs → P x → All P (xs ++ x ∷ [])
All-push P xs x all h = All-append P xs (x ∷ []) all (All-one P x h)
