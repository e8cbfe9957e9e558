-- The numbers that a list of elements stands for.
use Rattle.std.proofs.Common.{◌≡◌, ◌≢◌, ℕ, zero, suc, inl, inr, ◌<◌, ◌≤◌, List, [], ◌∷◌, ◌++◌, map, length, set, get_or, take, refl, sym, ◌∙◌, ap, arith}
use Rattle.std.proofs.lemmas.List.{map-set, map-append, length-map, get_or-map, get_or-set_same, get_or-set_other, get_or_append_left, get_or_past}
use Rattle.std.proofs.lemmas.List.{length-append, length-replicate, get_or-replicate}
use Rattle.std.specs.Prelude.{replicate}
use Rattle.std.specs.List.{All}
use Rattle.std.proofs.lemmas.List.Elements.{All-append}
use Rattle.std.proofs.lemmas.Bool.{cases_order, cases_lt}
use Rattle.std.proofs.Math.Seq.{get_or-append_seam}
use Rattle.row_sums.specs.Totals.{total_at}

module _ {A : Type 0} (value : A → ℕ) (xs : List A) where
  pub total_at-get : (i : ℕ) (d : A) → i < length xs → value (get_or xs i d) ≡ total_at value xs i
  total_at-get i d h = sym (get_or-map value xs i d 0 h)

  pub total_at-past : (i : ℕ) → length xs ≤ i → total_at value xs i ≡ 0
  total_at-past i h = get_or_past (map value xs) i 0 (omega (arith, length-map xs value))

  pub total_at-set_same : (i : ℕ) (x : A) → i < length xs → total_at value (set xs i x) i ≡ value x
  total_at-set_same i x h =
      ap (λ ys. get_or ys i 0) (map-set value xs i x) ∙ get_or-set_same (map value xs) i (value x) 0 (omega (arith, length-map xs value))

  pub total_at-set_other : (i q : ℕ) (x : A) → q ≢ i → total_at value (set xs i x) q ≡ total_at value xs q
  total_at-set_other i q x ne = ap (λ ys. get_or ys q 0) (map-set value xs i x) ∙ get_or-set_other (map value xs) i q (value x) 0 ne

  pub total_at-push_before : (x : A) (i : ℕ) → i < length xs → total_at value (xs ++ x ∷ []) i ≡ total_at value xs i
  total_at-push_before x i h = ap (λ ys. get_or ys i 0) (map-append value xs (x ∷ []))
      ∙ get_or_append_left (map value xs) (value x ∷ []) 0 i (omega (arith, length-map xs value))

  pub total_at-push_last : (x : A) → total_at value (xs ++ x ∷ []) (length xs) ≡ value x
  total_at-push_last x =
      ap (λ ys. get_or ys (length xs) 0) (map-append value xs (x ∷ []))
      ∙ ap (λ k. get_or (map value xs ++ value x ∷ []) k 0) (sym (length-map xs value)) ∙ get_or-append_seam (map value xs) (value x) [] 0

  -- zeros and one more are zeros
  pub zeros_push : (x : A) → ((i : ℕ) → total_at value xs i ≡ 0) → value x ≡ 0 → (i : ℕ) → total_at value (xs ++ x ∷ []) i ≡ 0
  zeros_push x none h i = elim (cases_order i (length xs)) [
    | inl same ↦ ap (total_at value (xs ++ x ∷ [])) same ∙ total_at-push_last x ∙ h
    | inr o ↦ elim o [
      | inl less ↦ total_at-push_before x i less ∙ none i
      | inr more ↦ get_or_past (map value (xs ++ x ∷ [])) i 0 (omega (arith, length-map (xs ++ x ∷ []) value, length-append xs (x ∷ [])))
    ]
  ]

-- so are a list without elements and a zero as often as you like
pub zeros_filled : {A : Type 0} (value : A → ℕ) (n k : ℕ) (old new : List A) (x : A) → old ≡ [] → new ≡ take n old ++ replicate k x → value x ≡ 0
    → (i : ℕ) → total_at value new i ≡ 0
zeros_filled value n k old new x none filled vanishes i =
    ap (λ xs. total_at value xs i) (filled ∙ ap (λ xs. take n xs ++ replicate k x) none ∙ empty n)
    ∙ elim (cases_lt i k) [
      | inl less ↦ sym (total_at-get value (replicate k x) i x (omega (arith, less, length-replicate k x)))
          ∙ ap value (get_or-replicate k i x x less) ∙ vanishes
      | inr past ↦ total_at-past value (replicate k x) i (omega (arith, past, length-replicate k x))
    ]
  where
    empty : (j : ℕ) → take j [] ++ replicate k x ≡ replicate k x
    empty zero = refl
    empty (suc j) = refl

All-one : {A : Type 0} (P : A → Type 0) (x : A) → P x → All P (x ∷ [])
All-one P x h zero d l = h
All-one P x h (suc k) d l = absurd (omega arith)

pub All-push : {A : Type 0} (P : A → Type 0) (xs : List A) (x : A) → All P xs → P x → All P (xs ++ x ∷ [])
All-push P xs x all h = All-append P xs (x ∷ []) all (All-one P x h)
