-- Texts that are joined by a byte which stands in none of them are cut at it again.
use Rattle.std.proofs.Common.{◌≡◌, ℕ, ◌+◌, ◌%◌, ◌^◌, ◌<◌, ◌≤◌, List, [], ◌∷◌, ◌++◌, refl, sym, ap, subst, arith}
use Rattle.std.specs.List.{AllByRecursion, join_with_byte}
use Rattle.std.specs.Fmt.{decimal}
use Rattle.std.proofs.lemmas.Fmt.{decimal_by_steps}

-- the byte stands nowhere in the text
abbrev pub IsFree : ℕ → List ℕ → Type 0
IsFree c xs = AllByRecursion (λ b. b ≡ c → ⊥) xs

pub all_append : {X : Type 0} (P : X → Type 0) (xs ys : List X) → AllByRecursion P xs → AllByRecursion P ys → AllByRecursion P (xs ++ ys)
all_append P [] ys h k = k
all_append P (x ∷ xs) ys h k = (h.0, all_append P xs ys h.1 k)

pub all_weaker : {X : Type 0} (P Q : X → Type 0) → ((x : X) → P x → Q x) → (xs : List X) → AllByRecursion P xs → AllByRecursion Q xs
all_weaker P Q f [] h = tt
all_weaker P Q f (x ∷ xs) h = (f x h.0, all_weaker P Q f xs h.1)

pub free_append : (c : ℕ) (xs ys : List ℕ) → IsFree c xs → IsFree c ys → IsFree c (xs ++ ys)
free_append c xs ys h k = all_append (λ b. b ≡ c → ⊥) xs ys h k

-- texts that end at the byte are cut there
pub cut : (c : ℕ) (xs ys a b : List ℕ) → IsFree c xs → IsFree c ys → xs ++ c ∷ a ≡ ys ++ c ∷ b → (xs ≡ ys) × (a ≡ b)
cut c [] [] a b h k e = (refl, cc)
cut c [] (y ∷ ys) a b h k e = absurd (k.0 cc)
cut c (x ∷ xs) [] a b h k e = absurd (h.0 cc)
cut c (x ∷ xs) (y ∷ ys) a b h k e =
    let t : xs ++ c ∷ a ≡ ys ++ c ∷ b = cc in
    let r = cut c xs ys a b h.1 k.1 t in
    let s : x ≡ y = cc in
    (λ i. s i ∷ r.0 i, r.1)

-- a text without the byte is none that has it
pub never : (c : ℕ) (xs ys b : List ℕ) → IsFree c xs → xs ≡ ys ++ c ∷ b → ⊥
never c [] [] b h e = cc
never c [] (y ∷ ys) b h e = cc
never c (x ∷ xs) [] b h e = h.0 cc
never c (x ∷ xs) (y ∷ ys) b h e = let t : xs ≡ ys ++ c ∷ b = cc in never c xs ys b h.1 t

pub join_same : (c : ℕ) (x y : List ℕ) (xs ys : List (List ℕ)) → AllByRecursion (IsFree c) (x ∷ xs) → AllByRecursion (IsFree c) (y ∷ ys)
    → join_with_byte c (x ∷ xs) ≡ join_with_byte c (y ∷ ys) → x ∷ xs ≡ y ∷ ys
join_same c x y [] [] h k e = ap (λ z. z ∷ []) e
join_same c x y [] (z ∷ ys) h k e = absurd (never c x y (join_with_byte c (z ∷ ys)) h.0 e)
join_same c x y (z ∷ xs) [] h k e = absurd (never c y x (join_with_byte c (z ∷ xs)) k.0 (sym e))
join_same c x y (z ∷ xs) (z' ∷ ys) h k e =
    let r = cut c x y (join_with_byte c (z ∷ xs)) (join_with_byte c (z' ∷ ys)) h.0 k.0 e in
    let s = join_same c z z' xs ys h.1 k.1 r.1 in
    λ i. r.0 i ∷ s i

pub join_free : (c d : ℕ) (xs : List (List ℕ)) → (c ≡ d → ⊥) → AllByRecursion (IsFree d) xs → IsFree d (join_with_byte c xs)
join_free c d [] n h = tt
join_free c d (x ∷ []) n h = h.0
join_free c d (x ∷ y ∷ xs) n h = free_append d x (c ∷ join_with_byte c (y ∷ xs)) h.0 (n, join_free c d (y ∷ xs) n h.1)

abbrev pub IsDigit : ℕ → Type 0
IsDigit b = (48 ≤ b) × (b ≤ 57)

pub decimal_digits : (n : ℕ) → n < 2 ^ 64 → AllByRecursion IsDigit (decimal n)
decimal_digits n h = decimal_by_steps (λ n ds. AllByRecursion IsDigit ds)
    (λ n l. ((omega arith, omega arith), tt))
    (λ n ds l k. all_append IsDigit ds ((48 + n % 10) ∷ []) k ((omega arith, omega arith), tt))
    n h

pub digits_free : (c : ℕ) → (IsDigit c → ⊥) → (xs : List ℕ) → AllByRecursion IsDigit xs → IsFree c xs
digits_free c n xs h = all_weaker IsDigit (λ b. b ≡ c → ⊥) (λ b d e. n (subst IsDigit e d)) xs h

pub decimal_free : (c n : ℕ) → (IsDigit c → ⊥) → n < 2 ^ 64 → IsFree c (decimal n)
decimal_free c n o h = digits_free c o (decimal n) (decimal_digits n h)
