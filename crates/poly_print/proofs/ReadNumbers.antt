-- The number at the front of a text.
use Rattle.std.proofs.Common.{◌≡◌, ℕ, ◌+◌, ◌-◌, ◌*◌, ◌%◌, ◌^◌, ◌<◌, ◌≤◌, List, [], ◌∷◌, ◌++◌, refl, sym, ap, subst, ◌∙◌, arith}
use Rattle.std.specs.List.{AllByRecursion}
use Rattle.std.specs.Fmt.{decimal}
use Rattle.std.proofs.lemmas.Fmt.{decimal_by_steps}
use Rattle.poly_print.proofs.CutTexts.{IsDigit, decimal_digits}

-- the number that digits spell behind the number n
abbrev pub value_from : ℕ → List ℕ → ℕ
value_from n [] = n
value_from n (digit ∷ digits) = value_from (10 * n + (digit - 48)) digits

value_from-append : (n : ℕ) (xs : List ℕ) (y : ℕ) → value_from n (xs ++ y ∷ []) ≡ 10 * value_from n xs + (y - 48)
value_from-append n [] y = refl
value_from-append n (x ∷ xs) y = value_from-append (10 * n + (x - 48)) xs y

pub value_from-decimal : (n : ℕ) → n < 2 ^ 64 → value_from 0 (decimal n) ≡ n
value_from-decimal n h = decimal_by_steps (λ n ds. value_from 0 ds ≡ n)
    (λ n l. omega arith)
    (λ n ds l e. value_from-append 0 ds (48 + n % 10) ∙ omega arith)
    n h

pub value_from-least : (n : ℕ) (ds : List ℕ) → n ≤ value_from n ds
value_from-least n [] = omega arith
value_from-least n (d ∷ ds) = let h = value_from-least (10 * n + (d - 48)) ds in omega arith

-- so far n has been read of the number r, and behind it and a `*` stands the rest
pub record IsPartly (n r : ℕ) (behind bytes : List ℕ) : Type 0 where
  pub digits : List ℕ
  pub all : AllByRecursion IsDigit digits
  pub value : value_from n digits ≡ r
  pub whole : bytes ≡ digits ++ 42 ∷ behind

pub partly-begin : (r : ℕ) (behind bytes : List ℕ) → r < 2 ^ 64 → bytes ≡ decimal r ++ 42 ∷ behind → IsPartly 0 r behind bytes
partly-begin r behind bytes h e = record { digits = decimal r; all = decimal_digits r h; value = value_from-decimal r h; whole = e }

-- one more digit is read
pub partly-next : (n r b : ℕ) (behind bytes rest : List ℕ) → bytes ≡ b ∷ rest → (b ≡ 42 → ⊥) → IsPartly n r behind bytes
    → IsPartly (10 * n + (b - 48)) r behind rest
partly-next n r b behind bytes rest s f p = go p.digits p.all p.value (sym s ∙ p.whole)
  where
    go : (ds : List ℕ) → AllByRecursion IsDigit ds → value_from n ds ≡ r → b ∷ rest ≡ ds ++ 42 ∷ behind → IsPartly (10 * n + (b - 48)) r behind rest
    go [] a v e = let s : b ≡ 42 = cc in absurd (f s)
    go (d ∷ ds) a v e =
        let s : b ≡ d = cc in
        let t : rest ≡ ds ++ 42 ∷ behind = cc in
        record { digits = ds; all = a.1; value = ap (λ x. value_from (10 * n + (x - 48)) ds) s ∙ v; whole = t }

-- at a `*` the number is read
pub partly-end : (n r : ℕ) (behind bytes rest : List ℕ) → bytes ≡ 42 ∷ rest → IsPartly n r behind bytes → (n ≡ r) × (rest ≡ behind)
partly-end n r behind bytes rest s p = go p.digits p.all p.value (sym s ∙ p.whole)
  where
    go : (ds : List ℕ) → AllByRecursion IsDigit ds → value_from n ds ≡ r → 42 ∷ rest ≡ ds ++ 42 ∷ behind → (n ≡ r) × (rest ≡ behind)
    go [] a v e = let t : rest ≡ behind = cc in (v, t)
    go (d ∷ ds) a v e = let s : 42 ≡ d = cc in let h = a.0.0 in absurd (omega arith)

-- what is no digit ends no number
pub partly-digit : (n r b : ℕ) (behind bytes rest : List ℕ) → bytes ≡ b ∷ rest → (b ≡ 42 → ⊥) → IsPartly n r behind bytes → IsDigit b
partly-digit n r b behind bytes rest s f p = go p.digits p.all (sym s ∙ p.whole)
  where
    go : (ds : List ℕ) → AllByRecursion IsDigit ds → b ∷ rest ≡ ds ++ 42 ∷ behind → IsDigit b
    go [] a e = let s : b ≡ 42 = cc in absurd (f s)
    go (d ∷ ds) a e = let s : d ≡ b = cc in subst IsDigit s a.0

pub partly-small : (n r : ℕ) (behind bytes : List ℕ) → IsPartly n r behind bytes → n ≤ r
partly-small n r behind bytes p = let h = value_from-least n p.digits in let v = p.value in omega arith

pub partly-some : (n r : ℕ) (behind : List ℕ) → IsPartly n r behind [] → ⊥
partly-some n r behind p = go p.digits p.whole
  where
    go : (ds : List ℕ) → [] ≡ ds ++ 42 ∷ behind → ⊥
    go [] e = cc
    go (d ∷ ds) e = cc
