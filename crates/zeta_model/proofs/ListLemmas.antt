-- What lists that are made of others hold.
use Rattle.std.proofs.Common.{◌≡◌, ◌<◌, ◌⊎◌, inl, inr, Bool, true, false, cond, List, [], ◌∷◌, map, filter, Contains, refl, sym, ap, subst, ◌∙◌, arith}
use Rattle.std.specs.List.{flat_map}
use Rattle.std.proofs.lemmas.List.Elements.{Contains-append_left, Contains-append_right, Contains-append_cases, Contains-push, Contains-push_cases}

pub none_contained : {A : Type 0} (x : A) → Contains [] x → ⊥
none_contained x c = let k : c.0 < 0 = c.1 in absurd (omega arith)

pub contains_first : {A : Type 0} (x : A) (xs : List A) → Contains (x ∷ xs) x
contains_first x xs = Contains-append_left (x ∷ []) xs x (Contains-push [] x)

pub contains_later : {A : Type 0} (x y : A) (xs : List A) → Contains xs y → Contains (x ∷ xs) y
contains_later x y xs c = Contains-append_right (x ∷ []) xs y c

pub contains_cases : {A : Type 0} (x y : A) (xs : List A) → Contains (x ∷ xs) y → (x ≡ y) ⊎ Contains xs y
contains_cases x y xs c = elim (Contains-append_cases (x ∷ []) xs y c) [
  | inl p ↦ elim (Contains-push_cases [] x y p) [ inl n ↦ absurd (none_contained y n) | inr e ↦ inl e ]
  | inr p ↦ inr p
]

-- an element of xs that f takes to y
pub record From {A B : Type 0} (f : A → B) (xs : List A) (y : B) : Type 0 where
  pub origin : A
  pub held : Contains xs origin
  pub gives : f origin ≡ y

pub contains-map : {A B : Type 0} (f : A → B) (xs : List A) (x : A) → Contains xs x → Contains (map f xs) (f x)
contains-map f [] x c = absurd (none_contained x c)
contains-map f (z ∷ xs) x c = elim (contains_cases z x xs c) [
  | inl e ↦ subst (λ a. Contains (f z ∷ map f xs) (f a)) e (contains_first (f z) (map f xs))
  | inr p ↦ contains_later (f z) (f x) (map f xs) (contains-map f xs x p)
]

pub from-map : {A B : Type 0} (f : A → B) (xs : List A) (y : B) → Contains (map f xs) y → From f xs y
from-map f [] y c = absurd (none_contained y c)
from-map f (z ∷ xs) y c = elim (contains_cases (f z) y (map f xs) c) [
  | inl e ↦ record { origin = z; held = contains_first z xs; gives = e }
  | inr p ↦ let r : From f xs y = from-map f xs y p in record { origin = r.origin; held = contains_later z r.origin xs r.held; gives = r.gives }
]

-- an element of xs for which f holds y
pub record Within {A B : Type 0} (f : A → List B) (xs : List A) (y : B) : Type 0 where
  pub origin : A
  pub held : Contains xs origin
  pub gives : Contains (f origin) y

pub contains-flat_map : {A B : Type 0} (f : A → List B) (xs : List A) (x : A) (y : B) → Contains xs x → Contains (f x) y → Contains (flat_map f xs) y
contains-flat_map f [] x y c p = absurd (none_contained x c)
contains-flat_map f (z ∷ xs) x y c p = elim (contains_cases z x xs c) [
  | inl e ↦ Contains-append_left (f z) (flat_map f xs) y (subst (λ a. Contains (f a) y) (sym e) p)
  | inr q ↦ Contains-append_right (f z) (flat_map f xs) y (contains-flat_map f xs x y q p)
]

pub within-flat_map : {A B : Type 0} (f : A → List B) (xs : List A) (y : B) → Contains (flat_map f xs) y → Within f xs y
within-flat_map f [] y c = absurd (none_contained y c)
within-flat_map f (z ∷ xs) y c = elim (Contains-append_cases (f z) (flat_map f xs) y c) [
  | inl p ↦ record { origin = z; held = contains_first z xs; gives = p }
  | inr p ↦ let r : Within f xs y = within-flat_map f xs y p in record { origin = r.origin; held = contains_later z r.origin xs r.held; gives = r.gives }
]

pub contains-filter : {A : Type 0} (p : A → Bool) (xs : List A) (x : A) → Contains xs x → p x ≡ true → Contains (filter p xs) x
contains-filter p [] x c h = absurd (none_contained x c)
contains-filter {A} p (z ∷ xs) x c h = elim (contains_cases z x xs c) [
  | inl e ↦ subst (λ b. Contains (cond b (z ∷ filter p xs) (filter p xs)) x) (sym (ap p e ∙ h))
      (subst (Contains (z ∷ filter p xs)) e (contains_first z (filter p xs)))
  | inr q ↦ later (p z) (contains-filter p xs x q h)
]
  where
    later : (b : Bool) → Contains (filter p xs) x → Contains (cond b (z ∷ filter p xs) (filter p xs)) x
    later true r = contains_later z x (filter p xs) r
    later false r = r

pub from-filter : {A : Type 0} (p : A → Bool) (xs : List A) (x : A) → Contains (filter p xs) x → Contains xs x × (p x ≡ true)
from-filter p [] x c = absurd (none_contained x c)
from-filter {A} p (z ∷ xs) x c = go (from-filter p xs x) (p z) refl c
  where
    later : Contains xs x × (p x ≡ true) → Contains (z ∷ xs) x × (p x ≡ true)
    later r = (contains_later z x xs r.0, r.1)

    go : (Contains (filter p xs) x → Contains xs x × (p x ≡ true)) → (b : Bool) → p z ≡ b → Contains (cond b (z ∷ filter p xs) (filter p xs)) x
        → Contains (z ∷ xs) x × (p x ≡ true)
    go more true e c = elim (contains_cases z x (filter p xs) c) [
      | inl s ↦ (subst (Contains (z ∷ xs)) s (contains_first z xs), ap p (sym s) ∙ e)
      | inr q ↦ later (more q)
    ]
    go more false e c = later (more c)
