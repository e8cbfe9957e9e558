-- Lists by what stands at their places.
use Rattle.std.specs.Prelude.{◌≡◌, ℕ, zero, suc, ◌-◌, ◌<◌, Some, List, [], ◌∷◌, ◌++◌, length, take, slice_get, get_or}
use Rattle.std.proofs.Common.{refl, sym, ◌∙◌, ap, subst, inl, inr, arith}
use Rattle.std.specs.List.{AllByRecursion, Contains}
use Rattle.std.proofs.lemmas.Bool.{cases_eq}
use Rattle.std.proofs.lemmas.List.{length-append, get_or_append_left, get_or-append_right}
use Rattle.std.proofs.lemmas.List.Elements.{Contains-get_or}
use Rattle.std.proofs.lemmas.Option.{slice_get_within, slice_get_read, get_or_from_slice_get}

pub all_from_get : {X : Type 0} (P : X → Type 0) (xs : List X) → ((k : ℕ) (x : X) → slice_get xs k ≡ Some x → P x) → AllByRecursion P xs
all_from_get P [] h = tt
all_from_get P (x ∷ xs) h = (h 0 x refl, all_from_get P xs (λ k. h (suc k)))

pub all_from_places : {X : Type 0} (P : X → Type 0) (xs : List X) → ((k : ℕ) → k < length xs → (x : X) × (slice_get xs k ≡ Some x) × P x)
    → AllByRecursion P xs
all_from_places P [] h = tt
all_from_places P (p ∷ ps) h =
    let (q, at, is) = h 0 (omega arith) in (
      subst P (sym (get_or_from_slice_get (p ∷ ps) 0 q p at)) is,
      all_from_places P ps (λ k l.
          let (r, place, has) = h (suc k) (omega (arith, l)) in
          let there : get_or ps k r ≡ r = get_or_from_slice_get (p ∷ ps) (suc k) r r place in
          (r, slice_get_read ps (length ps) k r refl l (sym there), has)),
    )

pub all_append : {X : Type 0} (P : X → Type 0) (xs ys : List X) → AllByRecursion P xs → AllByRecursion P ys → AllByRecursion P (xs ++ ys)
all_append P [] ys hx hy = hy
all_append P (x ∷ xs) ys hx hy = (hx.0, all_append P xs ys hx.1 hy)

pub all_take : {X : Type 0} (P : X → Type 0) (k : ℕ) (xs : List X) → AllByRecursion P xs → AllByRecursion P (take k xs)
all_take P zero xs h = tt
all_take P (suc k) [] h = tt
all_take P (suc k) (x ∷ xs) h = (h.0, all_take P k xs h.1)

pub all_weaker : {X : Type 0} (P Q : X → Type 0) → ((x : X) → P x → Q x) → (xs : List X) → AllByRecursion P xs → AllByRecursion Q xs
all_weaker P Q f [] h = tt
all_weaker P Q f (x ∷ xs) h = (f x h.0, all_weaker P Q f xs h.1)

-- a list of what there is for each number below n
pub tabulated : {X : Type 0} (P : ℕ → X → Type 0) (n : ℕ) → ((i : ℕ) → i < n → (x : X) × P i x)
    → (xs : List X) × (length xs ≡ n) × ((i : ℕ) → i < n → (x : X) × (slice_get xs i ≡ Some x) × P i x)
tabulated P zero h = ([], refl, λ i l. absurd (omega arith))
tabulated {X} P (suc n) h =
    let (xs, size, each) = tabulated P n (λ i l. h i (omega arith)) in
    let (last, is) = h n (omega arith) in
    let long : length (xs ++ last ∷ []) ≡ suc n = omega (arith, size, length-append xs (last ∷ [])) in (
      xs ++ last ∷ [],
      long,
      λ i l. elim (cases_eq i n) [
        | inr ne ↦
            let (x, at, has) = each i (omega arith) in (
              x,
              slice_get_read (xs ++ last ∷ []) (suc n) i x (sym long) l
                  (sym (get_or_append_left xs (last ∷ []) x i (omega (arith, size)) ∙ get_or_from_slice_get xs i x x at)),
              has,
            )
        | inl at ↦ (
          last,
          slice_get_read (xs ++ last ∷ []) (suc n) i last (sym long) l
              (sym (get_or-append_right xs (last ∷ []) n i last size (omega (arith, at))
              ∙ ap (λ k. get_or (last ∷ []) k last) (let z : i - n ≡ 0 = omega (arith, at) in z))),
          subst (λ k. P k last) (sym at) is,
        )
      ],
    )

pub all_contains : {X : Type 0} (P : X → Type 0) (xs : List X) → AllByRecursion P xs → (x : X) → Contains xs x → P x
all_contains P [] h x (i, l, at) = absurd (omega (arith, l))
all_contains P (y ∷ xs) h x (zero, l, at) = subst P at h.0
all_contains P (y ∷ xs) h x (suc i, l, at) = all_contains P xs h.1 x (i, omega (arith, l), at)

pub contained_at : {X : Type 0} (xs : List X) (i : ℕ) (x : X) → slice_get xs i ≡ Some x → Contains xs x
contained_at xs i x at = subst (Contains xs) (get_or_from_slice_get xs i x x at) (Contains-get_or xs i x (slice_get_within xs i x at))

pub place_of : {X : Type 0} (xs : List X) (i : ℕ) (x : X) → i < length xs → get_or xs i x ≡ x → slice_get xs i ≡ Some x
place_of xs i x l at = slice_get_read xs (length xs) i x refl l (sym at)

-- the first items of a list are those of another where the same stands at each of their places
pub first_places : {X : Type 0} (xs ys : List X) → ((i : ℕ) → i < length xs → slice_get xs i ≡ slice_get ys i) → take (length xs) ys ≡ xs
first_places [] ys h = refl
first_places (x ∷ xs) [] h = absurd (cc (h 0 (omega arith)))
first_places (x ∷ xs) (y ∷ ys) h =
    let first : y ≡ x = get_or_from_slice_get (y ∷ ys) 0 x y (sym (h 0 (omega arith))) in
    λ j. first j ∷ first_places xs ys (λ i l. h (suc i) (omega (arith, l))) j
