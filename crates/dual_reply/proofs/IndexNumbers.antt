-- The values of the numbers of an index as they are written.
use Rattle.std.proofs.Common.{◌≡◌, ◌≢◌, ℕ, ◌<◌, ◌≤◌, Bool, true, false, eqb, List, [], ◌∷◌, length, map, refl, arith}
use Rattle.std.specs.Prelude.{nat_lt}
use Rattle.std.specs.List.{AllByRecursion, list_all}
use Rattle.std.proofs.lemmas.Bool.{leb-true, lt-ltb, eqb-true, eqb-false}
use Rattle.line_tokens.specs.Tokens.{is_digit, value_of}
use Rattle.line_tokens.specs.Runs.{IsIndexNumber}
use Rattle.line_tokens.proofs.MarkLemmas.{and-true, true-and}
use Rattle.dual_reply.specs.Inner.{is_index}

abbrev pub is_one : List ℕ → Bool
is_one [] = false
is_one (d ∷ []) = eqb d 49
is_one (d ∷ e ∷ ds) = false

-- what is known of the value of a number
pub record Tells (digits : List ℕ) : Type 0 where
  pub positive : 0 < value_of digits
  pub one : is_one digits ≡ true → value_of digits ≡ 1
  pub over : is_one digits ≡ false → 1 < value_of digits

digit_range : (d : ℕ) → is_digit d ≡ true → (48 ≤ d) × (d ≤ 57)
digit_range d e = let a = and-true _ _ e in (leb-true 48 d a.0, leb-true d 57 a.1)

pub number_tells : (digits : List ℕ) → IsIndexNumber digits → Tells digits
number_tells [] h = let p = h.0.some in absurd (omega arith)
number_tells (d ∷ []) h =
    let r = digit_range d h.0.all.0 in
    let n : d ≢ 48 = h.1 in
    record {
      positive = omega arith;
      one = λ e. let f : d ≡ 49 = eqb-true d 49 e in omega arith;
      over = λ e. let f : d ≢ 49 = eqb-false d 49 e in omega arith;
    }
number_tells (d ∷ e ∷ []) h =
    let r = digit_range d h.0.all.0 in
    let n : d ≢ 48 = h.1 in
    record { positive = omega arith; one = λ f. cc; over = λ f. omega arith }
number_tells (d ∷ e ∷ f ∷ []) h =
    let r = digit_range d h.0.all.0 in
    let n : d ≢ 48 = h.1 in
    record { positive = omega arith; one = λ g. cc; over = λ g. omega arith }
number_tells (d ∷ e ∷ f ∷ g ∷ ds) h = let l = h.0.few in absurd (omega arith)

pub positives : (ks : List (List ℕ)) → AllByRecursion IsIndexNumber ks → AllByRecursion (λ k. 0 < k) (map value_of ks)
positives [] h = tt
positives (k ∷ ks) h = ((number_tells k h.0).positive, positives ks h.1)

positive_test : (ks : List ℕ) → AllByRecursion (λ k. 0 < k) ks → list_all (λ k. nat_lt 0 k) ks ≡ true
positive_test [] h = refl
positive_test (k ∷ ks) h = true-and _ _ (lt-ltb 0 k h.0) (positive_test ks h.1)

pub is_index-written : (k : List ℕ) (ks : List (List ℕ)) → AllByRecursion IsIndexNumber (k ∷ ks) → is_index (map value_of (k ∷ ks)) ≡ true
is_index-written k ks h =
    true-and _ _ (lt-ltb 0 (length (map value_of (k ∷ ks))) (omega arith)) (positive_test (map value_of (k ∷ ks)) (positives (k ∷ ks) h))
