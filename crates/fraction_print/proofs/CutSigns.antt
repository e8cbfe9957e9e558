-- Terms that stand behind signs are cut at the signs.
use Rattle.std.proofs.Common.{◌≡◌, ℕ, ◌⊎◌, inl, inr, List, [], ◌∷◌, ◌++◌, refl}
use Rattle.std.specs.List.{AllByRecursion}
use Rattle.poly_print.proofs.CutTexts.{all_append}

-- a sign stands nowhere in the text
abbrev pub HasNoSign : List ℕ → Type 0
HasNoSign xs = AllByRecursion (λ b. (b ≡ 43 → ⊥) × (b ≡ 45 → ⊥)) xs

-- nothing, or a sign first
abbrev pub BeginsSigned : List ℕ → Type 0
BeginsSigned [] = Unit {0}
BeginsSigned (b ∷ bytes) = (b ≡ 43) ⊎ (b ≡ 45)

no_sign : (b c : ℕ) → (b ≡ 43) ⊎ (b ≡ 45) → b ≡ c → (c ≡ 43 → ⊥) × (c ≡ 45 → ⊥) → ⊥
no_sign b c (inl at) e h = h.0 cc
no_sign b c (inr at) e h = h.1 cc

pub cut_signed : (xs ys a b : List ℕ) → HasNoSign xs → HasNoSign ys → BeginsSigned a → BeginsSigned b → xs ++ a ≡ ys ++ b → (xs ≡ ys) × (a ≡ b)
cut_signed [] [] a b h k f g e = (refl, e)
cut_signed [] (y ∷ ys) [] b h k f g e = cc
cut_signed [] (y ∷ ys) (c ∷ a) b h k f g e = absurd (let q : c ≡ y = cc in no_sign c y f q k.0)
cut_signed (x ∷ xs) [] a [] h k f g e = cc
cut_signed (x ∷ xs) [] a (c ∷ b) h k f g e = absurd (let q : c ≡ x = cc in no_sign c x g q h.0)
cut_signed (x ∷ xs) (y ∷ ys) a b h k f g e =
    let t : xs ++ a ≡ ys ++ b = cc in
    let r = cut_signed xs ys a b h.1 k.1 f g t in
    let s : x ≡ y = cc in
    (λ i. s i ∷ r.0 i, r.1)

pub no_sign_append : (xs ys : List ℕ) → HasNoSign xs → HasNoSign ys → HasNoSign (xs ++ ys)
no_sign_append xs ys h k = all_append (λ b. (b ≡ 43 → ⊥) × (b ≡ 45 → ⊥)) xs ys h k

-- a text with neither sign
pub both_free : (xs : List ℕ) → AllByRecursion (λ b. b ≡ 43 → ⊥) xs → AllByRecursion (λ b. b ≡ 45 → ⊥) xs → HasNoSign xs
both_free [] h k = tt
both_free (x ∷ xs) h k = ((h.0, k.0), both_free xs h.1 k.1)
