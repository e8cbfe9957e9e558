-- Numbers in decimal: how many digits, and the number that they spell.
use Rattle.std.proofs.Common.{◌≡◌, ℕ, zero, suc, ◌+◌, ◌-◌, ◌*◌, ◌/◌, ◌%◌, ◌^◌, ◌<◌, ◌≤◌, List, [], ◌∷◌, ◌++◌, length, refl, ◌∙◌, length-append, arith}
use Rattle.std.specs.Prelude.{◌&&◌, IsTrue, slice_index}
use Rattle.std.specs.Fmt.{decimal}
use Rattle.std.proofs.lemmas.Fmt.{decimal_by_steps, decimal_nonempty, first_decimal}
use Rattle.std.proofs.lemmas.Bool.{le-leb}
use Rattle.line_tokens.specs.Tokens.{is_digit, value_from, value_of}
use Rattle.line_tokens.specs.Runs.{IsDigits, IsIndexNumber}
use Rattle.poly_print.proofs.CutTexts.{IsDigit, decimal_digits, all_weaker}

value_from-append : (n : ℕ) (xs : List ℕ) (y : ℕ) → value_from n (xs ++ y ∷ []) ≡ 10 * value_from n xs + (y - 48)
value_from-append n [] y = refl
value_from-append n (x ∷ xs) y = value_from-append (10 * n + (x - 48)) xs y

pub value_of-decimal : (n : ℕ) → n < 2 ^ 64 → value_of (decimal n) ≡ n
value_of-decimal n h = decimal_by_steps (λ n ds. value_of ds ≡ n) (λ n l. omega arith) (λ n ds l e. value_from-append 0 ds (48 + n % 10) ∙ omega arith) n h

power-suc : (k : ℕ) → 10 ^ suc k ≡ 10 * 10 ^ k
power-suc k = omega arith

longer : (n : ℕ) (ds : List ℕ) (x : ℕ) → 10 ≤ n → ((k : ℕ) → n / 10 < 10 ^ suc k → length ds ≤ suc k) → (k : ℕ) → n < 10 ^ suc k
    → length (ds ++ x ∷ []) ≤ suc k
longer n ds x l f zero h = absurd (omega (arith, power-suc 0))
longer n ds x l f (suc k) h = omega (arith, f k (omega (arith, power-suc (suc k))), length-append ds (x ∷ []))

pub length-decimal : (n k : ℕ) → n < 2 ^ 64 → n < 10 ^ suc k → length (decimal n) ≤ suc k
length-decimal n k h l = decimal_by_steps (λ n ds. (k : ℕ) → n < 10 ^ suc k
    → length ds ≤ suc k) (λ n l k s. omega arith) (λ n ds l f. longer n ds (48 + n % 10) l f) n h k l

is_digit-true : (b : ℕ) → IsDigit b → IsTrue (is_digit b)
is_digit-true b h = λ i. le-leb 48 b h.0 i && le-leb b 57 h.1 i

pub decimal-digits : (n k : ℕ) → n < 2 ^ 64 → n < 10 ^ suc k → IsDigits (suc k) (decimal n)
decimal-digits n k h l = record {
  some = decimal_nonempty n h;
  few = length-decimal n k h l;
  all =
      all_weaker IsDigit (λ b. IsTrue (is_digit b)) is_digit-true (decimal n) (decimal_digits n h);
}

pub decimal-index : (n : ℕ) → 0 < n → n ≤ 24 → IsIndexNumber (decimal n)
decimal-index n p h = (
  decimal-digits n 2 (omega arith) (omega arith),
  λ e. let f : 48 < slice_index (decimal n) 0 = first_decimal n p (omega arith) in
      absurd (omega arith),
)
