-- What lists that are made of others hold, and that they hold nothing twice.
use Rattle.std.proofs.Common.{◌≡◌, ◌≢◌, ℕ, ◌+◌, ◌<◌, ◌≤◌, zero, suc, ◌⊎◌, inl, inr, Bool, true, false, cond, List, [], ◌∷◌, ◌++◌, map, filter, Contains, AllPairs, refl, sym, ap, subst, ◌∙◌, arith}
use Rattle.std.specs.List.{flat_map, range_with_len}
use Rattle.std.proofs.lemmas.List.{get_or_default}
use Rattle.std.proofs.lemmas.List.Elements.{Contains-append_cases}
use Rattle.std.proofs.lemmas.List.Kept.{AllPairs-cons}
pub use Rattle.zeta_model.proofs.ListLemmas.{From, Within, none_contained, contains_first, contains_later, contains_cases, contains-map, from-map, contains-flat_map, within-flat_map, contains-filter, from-filter}

pub contains-range : (a n k : ℕ) → a ≤ k → k < a + n → Contains (range_with_len a n) k
contains-range a zero k h g = absurd (omega arith)
contains-range a (suc n) k h g = elim (first a k h) [
  | inl e ↦ subst (Contains (a ∷ range_with_len (a + 1) n)) e (contains_first a (range_with_len (a + 1) n))
  | inr l ↦ contains_later a k (range_with_len (a + 1) n) (contains-range (a + 1) n k (omega (arith, l)) (omega arith))
]
  where
    first : (a k : ℕ) → a ≤ k → (a ≡ k) ⊎ (a < k)
    first zero zero h = inl refl
    first zero (suc k) h = inr (omega arith)
    first (suc a) zero h = absurd (omega arith)
    first (suc a) (suc k) h = elim (first a k (omega arith)) [ inl e ↦ inl (ap suc e) | inr l ↦ inr (omega (arith, l)) ]

pub within-range : (a n k : ℕ) → Contains (range_with_len a n) k → (a ≤ k) × (k < a + n)
within-range a zero k c = absurd (none_contained k c)
within-range a (suc n) k c = elim (contains_cases a k (range_with_len (a + 1) n) c) [
  | inl e ↦ (omega (arith, e), omega (arith, e))
  | inr p ↦ let r : (a + 1 ≤ k) × (k < a + 1 + n) = within-range (a + 1) n k p in (omega (arith, r.0), omega (arith, r.1))
]

-- nothing stands in the list twice
abbrev pub Distinct : {A : Type 0} → List A → Type 0
Distinct [] = Unit {0}
Distinct (x ∷ xs) = (Contains xs x → ⊥) × Distinct xs

pub Distinct-append : {A : Type 0} (xs ys : List A) → Distinct xs → Distinct ys → ((z : A) → Contains xs z → Contains ys z → ⊥) → Distinct (xs ++ ys)
Distinct-append [] ys d e f = e
Distinct-append {A} (x ∷ xs) ys d e f = (here, Distinct-append xs ys d.1 e (λ z c. f z (contains_later x z xs c)))
  where
    here : Contains (xs ++ ys) x → ⊥
    here c = elim (Contains-append_cases xs ys x c) [ inl p ↦ d.0 p | inr p ↦ f x (contains_first x xs) p ]

pub Distinct-map : {A B : Type 0} (f : A → B) → ((x y : A) → f x ≡ f y → x ≡ y) → (xs : List A) → Distinct xs → Distinct (map f xs)
Distinct-map f one [] d = tt
Distinct-map f one (x ∷ xs) d =
    (λ c. let r : From f xs (f x) = from-map f xs (f x) c in d.0 (subst (Contains xs) (one r.origin x r.gives) r.held), Distinct-map f one xs d.1)

pub Distinct-filter : {A : Type 0} (p : A → Bool) (xs : List A) → Distinct xs → Distinct (filter p xs)
Distinct-filter p [] d = tt
Distinct-filter {A} p (x ∷ xs) d = go (p x) (Distinct-filter p xs d.1)
  where
    go : (b : Bool) → Distinct (filter p xs) → Distinct (cond b (x ∷ filter p xs) (filter p xs))
    go true r = (λ c. d.0 (from-filter p xs x c).0, r)
    go false r = r

pub Distinct-flat_map : {A B : Type 0} (f : A → List B) → ((x : A) → Distinct (f x)) → ((x y : A) (z : B) → Contains (f x) z → Contains (f y) z → x ≡ y)
    → (xs : List A) → Distinct xs → Distinct (flat_map f xs)
Distinct-flat_map f each apart [] d = tt
Distinct-flat_map {A} {B} f each apart (x ∷ xs) d = Distinct-append (f x) (flat_map f xs) (each x) (Distinct-flat_map f each apart xs d.1) again
  where
    again : (z : B) → Contains (f x) z → Contains (flat_map f xs) z → ⊥
    again z c p = let r : Within f xs z = within-flat_map f xs z p in d.0 (subst (Contains xs) (apart r.origin x z r.gives c) r.held)

pub Distinct-range : (a n : ℕ) → Distinct (range_with_len a n)
Distinct-range a zero = tt
Distinct-range a (suc n) = (λ c. let r : (a + 1 ≤ a) × (a < a + 1 + n) = within-range (a + 1) n a c in absurd (omega (arith, r.0)), Distinct-range (a + 1) n)

pub pairs_from_Distinct : {A : Type 0} (xs : List A) → Distinct xs → AllPairs (λ x y. x ≢ y) xs
pairs_from_Distinct [] d = λ i j e l h. absurd (omega arith)
pairs_from_Distinct (x ∷ xs) d =
    AllPairs-cons (λ x y. x ≢ y) x xs
    (λ k e h s. d.0 (k, h, get_or_default xs k x e h ∙ sym s))
    (pairs_from_Distinct xs d.1)
