-- What is read from a short line has small weights and depths.
use Rattle.std.proofs.Common.{◌≡◌, ℕ, suc, ◌+◌, ◌-◌, ◌*◌, ◌^◌, ◌<◌, ◌≤◌, Bool, true, false, All, List, [], ◌∷◌, ◌++◌, length, map, sym, subst, ap, ◌∙◌, length-append, arith}
use Rattle.std.specs.List.{sum, sum_by, AllByRecursion}
use Rattle.std.proofs.Math.Nat.{mul-le-mul_left, mul-le-mul_right, pow-le-pow_right}
use Rattle.std.proofs.lemmas.List.Sums.{sum_by-cons}
use Rattle.std.proofs.lemmas.List.Elements.{All-from_recursion}
use Rattle.std.proofs.Common.{refl}
use Rattle.line_tokens.specs.declared.marks.Mark.TheVariants.{Caret}
use Rattle.line_tokens.specs.Tokens.{Token, mark, run, spelling, value_from, value_of, IsSpelled}
use Rattle.line_tokens.specs.Runs.{IsDigits, IsIndexNumber, more_numbers}
use Rattle.line_tokens.proofs.RunForms.{AreDigits}
use Rattle.line_tokens.proofs.HeldNumbers.{one_more, digit_small}
use Rattle.zeta_expr.specs.Forms.{TermForm}
use Rattle.zeta_expr.specs.Grammar.{WrittenFactor, number, fraction, zeta, power, WrittenTerm, IsFactor, IsTerm, IsPower, factor_tokens, more_factors, term_tokens, sign_token, more_terms, line_tokens}
use Rattle.zeta_expr.specs.Readings.{factor_of, term_of, IsReading}
use Rattle.zeta_expr.specs.Weights.{weight_in, depth_in, weight_of, depth_of}

-- the marks among tokens; each takes a byte
abbrev marks : List Token → ℕ
marks [] = 0
marks (mark m ∷ tokens) = suc (marks tokens)
marks (run digits ∷ tokens) = marks tokens

marks_spelled : (tokens : List Token) (bytes : List ℕ) → IsSpelled tokens bytes → marks tokens ≤ length bytes
marks_spelled [] bytes s = omega arith
marks_spelled (mark m ∷ tokens) bytes s =
    let r = marks_spelled tokens s.1 s.4 in
    let e : length bytes ≡ length s.0 + suc (length s.1) = ap length s.3 ∙ length-append s.0 (spelling (mark m) ++ s.1) in
    omega arith
marks_spelled (run digits ∷ tokens) bytes s =
    let r = marks_spelled tokens s.1 s.4 in
    let e : length bytes ≡ length s.0 + length (digits ++ s.1) = ap length s.3 ∙ length-append s.0 (digits ++ s.1) in
    let f : length (digits ++ s.1) ≡ length digits + length s.1 = length-append digits s.1 in
    omega arith

-- how many numbers the index of a factor has
abbrev size : WrittenFactor → ℕ
size (number top) = 0
size (fraction top bottom) = 0
size (zeta k ks) = suc (length ks)
size (power k ks p) = suc (length ks)

numbers_marks : (ks : List (List ℕ)) (rest : List Token) → marks (more_numbers ks rest) ≡ suc (length ks) + marks rest
numbers_marks [] rest = omega arith
numbers_marks (k ∷ ks) rest = let r = numbers_marks ks rest in omega arith

factor_marks : (f : WrittenFactor) (rest : List Token) → size f + marks rest ≤ marks (factor_tokens f rest)
factor_marks (number top) rest = omega arith
factor_marks (fraction top bottom) rest = omega arith
factor_marks (zeta k ks) rest = let r = numbers_marks ks rest in omega arith
factor_marks (power k ks p) rest = let r = numbers_marks ks (mark Caret ∷ run p ∷ rest) in omega arith

abbrev sizes : List WrittenFactor → ℕ
sizes [] = 0
sizes (f ∷ fs) = size f + sizes fs

factors_marks : (fs : List WrittenFactor) (rest : List Token) → sizes fs + marks rest ≤ marks (more_factors fs rest)
factors_marks [] rest = omega arith
factors_marks (f ∷ fs) rest =
    let a = factors_marks fs rest in
    let b = factor_marks f (more_factors fs rest) in
    omega arith

term_marks : (t : WrittenTerm) (rest : List Token) → sizes (t.first ∷ t.more) + marks rest ≤ marks (term_tokens t rest)
term_marks t rest =
    let a = factors_marks t.more rest in
    let b = factor_marks t.first (more_factors t.more rest) in
    omega arith

signed_marks : (t : WrittenTerm) (ts : List WrittenTerm) → marks (more_terms (t ∷ ts)) ≡ suc (marks (term_tokens t (more_terms ts)))
signed_marks t ts = sign t.negative
  where
    sign : (b : Bool) → marks (sign_token b ∷ term_tokens t (more_terms ts)) ≡ suc (marks (term_tokens t (more_terms ts)))
    sign false = refl
    sign true = refl

terms_marks : (ts : List WrittenTerm) (n : ℕ) → marks (more_terms ts) ≤ n → AllByRecursion (λ t. sizes (t.first ∷ t.more) ≤ n) ts
terms_marks [] n h = tt
terms_marks (t ∷ ts) n h =
    let e = signed_marks t ts in
    let a = term_marks t (more_terms ts) in
    (omega arith, terms_marks ts n (omega arith))

line_marks : (b : Bool) (t : WrittenTerm) (ts : List WrittenTerm) (n : ℕ) → marks (line_tokens b t ts) ≤ n
    → AllByRecursion (λ t. sizes (t.first ∷ t.more) ≤ n) (t ∷ ts)
line_marks true t ts n h = terms_marks (t ∷ ts) n h
line_marks false t ts n h = let a = term_marks t (more_terms ts) in (omega arith, terms_marks ts n (omega arith))

value_below : (digits : List ℕ) (n : ℕ) → AreDigits digits → value_from n digits < (n + 1) * 10 ^ length digits
value_below [] n h = omega arith
value_below (d ∷ digits) n h =
    let a = value_below digits (10 * n + (d - 48)) h.1 in
    let b : (10 * n + (d - 48) + 1) * 10 ^ length digits ≤ (n + 1) * 10 ^ suc (length digits) =
    one_more n (d - 48) (length digits) ((n + 1) * 10 ^ suc (length digits)) (digit_small d h.0) (omega arith) in
    omega arith

digits_below : (most : ℕ) (digits : List ℕ) → IsDigits most digits → value_of digits < 10 ^ most
digits_below most digits h =
    let a = value_below digits 0 h.all in
    let b : 10 ^ length digits ≤ 10 ^ most = pow-le-pow_right {n = 10} (omega arith) h.few in
    omega arith

index_below : (digits : List ℕ) → IsIndexNumber digits → value_of digits ≤ 999
index_below digits h = let a : value_of digits < 1000 = digits_below 3 digits h.0 in omega arith

power_below : (digits : List ℕ) → IsPower digits → value_of digits ≤ 99
power_below digits h = let a : value_of digits < 100 = digits_below 2 digits h in omega arith

sum_below : (ks : List (List ℕ)) → AllByRecursion IsIndexNumber ks → sum (map value_of ks) ≤ 999 * length ks
sum_below [] h = omega arith
sum_below (k ∷ ks) h =
    let e : sum (map value_of (k ∷ ks)) ≡ value_of k + sum (map value_of ks) = sum_by-cons (λ x. x) (value_of k) (map value_of ks) in
    let a = index_below k h.0 in
    let r = sum_below ks h.1 in
    omega arith

length_map : (ks : List (List ℕ)) → length (map value_of ks) ≡ length ks
length_map [] = refl
length_map (k ∷ ks) = ap suc (length_map ks)

product_below : (p s n : ℕ) → p ≤ 99 → s ≤ 999 * n → p * s ≤ 98901 * n
product_below p s n h k =
    let a : p * s ≤ 99 * s = mul-le-mul_right s h in
    omega arith

-- weight and depth of a factor, by the size of its index
record Small (f : WrittenFactor) : Type 0 where
  weight : weight_in (factor_of f) ≤ 98901 * size f
  depth : depth_in (factor_of f) ≤ 98901 * size f

small_factor : (f : WrittenFactor) → IsFactor f → Small f
small_factor (number top) h = record { weight = omega arith; depth = omega arith }
small_factor (fraction top bottom) h = record { weight = omega arith; depth = omega arith }
small_factor (zeta k ks) h =
    let l = length_map (k ∷ ks) in
    record {
      weight = product_below 1 (sum (map value_of (k ∷ ks))) (suc (length ks)) (omega arith) (sum_below (k ∷ ks) h);
      depth = product_below 1 (length (map value_of (k ∷ ks))) (suc (length ks)) (omega arith) (omega arith);
    }
small_factor (power k ks p) h =
    let l = length_map (k ∷ ks) in
    record {
      weight = product_below (value_of p) (sum (map value_of (k ∷ ks))) (suc (length ks)) (power_below p h.1) (sum_below (k ∷ ks) h.0);
      depth = product_below (value_of p) (length (map value_of (k ∷ ks))) (suc (length ks)) (power_below p h.1) (omega arith);
    }

small_factors : (fs : List WrittenFactor) → AllByRecursion IsFactor fs
    → (sum_by weight_in (map factor_of fs) ≤ 98901 * sizes fs) × (sum_by depth_in (map factor_of fs) ≤ 98901 * sizes fs)
small_factors [] h = (omega arith, omega arith)
small_factors (f ∷ fs) h =
    let a = small_factor f h.0 in
    let aw = a.weight in
    let ad = a.depth in
    let r = small_factors fs h.1 in
    let rw' = r.0 in
    let rd = r.1 in
    let w : sum_by weight_in (map factor_of (f ∷ fs)) ≡ weight_in (factor_of f) + sum_by weight_in (map factor_of fs) =
    sum_by-cons weight_in (factor_of f) (map factor_of fs) in
    let d : sum_by depth_in (map factor_of (f ∷ fs)) ≡ depth_in (factor_of f) + sum_by depth_in (map factor_of fs) =
    sum_by-cons depth_in (factor_of f) (map factor_of fs) in
    (omega arith, omega arith)

fits : (x n : ℕ) → x ≤ 98901 * n → n ≤ 4096 → x < 2 ^ 64
fits x n h l = let a : 98901 * n ≤ 98901 * 4096 = mul-le-mul_left 98901 l in omega arith

small_terms : (ts : List WrittenTerm) → AllByRecursion IsTerm ts → AllByRecursion (λ t. sizes (t.first ∷ t.more) ≤ 4096) ts
    → AllByRecursion (λ t. weight_of t < 2 ^ 64) (map term_of ts) × AllByRecursion (λ t. depth_of t < 2 ^ 64) (map term_of ts)
small_terms [] h k = (tt, tt)
small_terms (t ∷ ts) h k =
    let a = small_factors (t.first ∷ t.more) h.0 in
    let r = small_terms ts h.1 k.1 in
    ((fits (weight_of (term_of t)) (sizes (t.first ∷ t.more)) a.0 k.0, r.0), (fits (depth_of (term_of t)) (sizes (t.first ∷ t.more)) a.1 k.0, r.1))

pub reading_small : (line : List ℕ) (e : List TermForm) → length line ≤ 4096 → IsReading line e
    → All (λ t. weight_of t < 2 ^ 64) e × All (λ t. depth_of t < 2 ^ 64) e
reading_small line e l r =
    let n = marks_spelled (line_tokens r.0 r.1 r.2) line r.3.spelled in
    let k = line_marks r.0 r.1 r.2 4096 (omega arith) in
    let s = small_terms (r.1 ∷ r.2) r.3.formed k in (
      subst (λ (v : List TermForm). All (λ t. weight_of t < 2 ^ 64) v) (sym r.4) (All-from_recursion (λ t. weight_of t < 2 ^ 64) (map term_of
          (r.1 ∷ r.2)) s.0),
      subst (λ (v : List TermForm). All (λ t. depth_of t < 2 ^ 64) v) (sym r.4) (All-from_recursion (λ t. depth_of t < 2 ^ 64) (map term_of
          (r.1 ∷ r.2)) s.1),
    )
