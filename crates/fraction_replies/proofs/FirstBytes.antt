-- The text of a row with fractions begins with a digit or a minus, and no refusal does.
use Rattle.std.specs.Prelude.{◌≡◌, ℕ, ◌^◌, ◌<◌, ◌==◌, if◌then◌else◌, Bool, true, false, List, [], ◌∷◌, ◌++◌, codes, length, get_or}
use Rattle.std.proofs.Common.{refl, sym, subst, inl, inr, append_assoc, arith}
use Rattle.std.specs.List.{AllByRecursion}
use Rattle.std.specs.Fmt.{decimal}
use Rattle.std.proofs.lemmas.Fmt.{decimal_nonempty}
use Rattle.zeta_model.specs.declared.Letter.{Letter}
use Rattle.zeta_expr.specs.declared.fault.LineFault.{LineFault}
use Rattle.zeta_expr.specs.declared.fault.LineFault.TheVariants.{LineTooLong, Syntax, NoInverse, WeightIs, DepthIs, Memory}
use Rattle.poly_print.specs.Polynomials.{ArePairs, monomial_text}
use Rattle.poly_print.proofs.CutTexts.{IsDigit, decimal_digits}
use Rattle.fraction_print.specs.FractionTexts.{Coefficient, IsCoefficient, AreCoefficients, is_negative, sign_text, size_text, terms_text, fractions_text}
use Rattle.fraction_print.specs.FractionTexts.Coefficient.{Ratio, Residue}
use Rattle.fraction_print.proofs.FractionTerms.{small_number}
use Rattle.table_rewrite.specs.Replies.{fault_text}
use Rattle.fraction_replies.specs.Telling.{BeginsAsNumber}

-- no refusal begins as a number
pub no_number : (fault : LineFault) → BeginsAsNumber (fault_text fault) → ⊥
no_number LineTooLong (inl h) = let l : ◌≡◌ {A = ℕ} 108 45 = h in omega arith
no_number LineTooLong (inr h) = let l : 108 < 58 = h.1 in omega arith
no_number (Syntax at) (inl h) = let s : ◌≡◌ {A = ℕ} 115 45 = h in omega arith
no_number (Syntax at) (inr h) = let s : 115 < 58 = h.1 in omega arith
no_number (NoInverse b) (inl h) = let n : ◌≡◌ {A = ℕ} 110 45 = h in omega arith
no_number (NoInverse b) (inr h) = let n : 110 < 58 = h.1 in omega arith
no_number (WeightIs k) (inl h) = let w : ◌≡◌ {A = ℕ} 119 45 = h in omega arith
no_number (WeightIs k) (inr h) = let w : 119 < 58 = h.1 in omega arith
no_number (DepthIs k) (inl h) = let d : ◌≡◌ {A = ℕ} 100 45 = h in omega arith
no_number (DepthIs k) (inr h) = let d : 100 < 58 = h.1 in omega arith
no_number (Memory e) (inl h) = let o : ◌≡◌ {A = ℕ} 111 45 = h in omega arith
no_number (Memory e) (inr h) = let o : 111 < 58 = h.1 in omega arith

first_digit : (xs ys : List ℕ) → 0 < length xs → AllByRecursion IsDigit xs → BeginsAsNumber (xs ++ ys)
first_digit [] ys some each = absurd (omega arith)
first_digit (x ∷ xs) ys some each = inr (let d = each.0 in (let from = d.0 in omega arith, let to = d.1 in omega arith))

-- a number below 2^64, whatever stands behind it
number_begins : (n : ℕ) (rest : List ℕ) → n < 2 ^ 64 → BeginsAsNumber (decimal n ++ rest)
number_begins n rest small = first_digit (decimal n) rest (decimal_nonempty n small) (decimal_digits n small)

ratio_begins : (top bottom : ℕ) (rest : List ℕ) → top < 2 ^ 64 → (one : Bool)
    → BeginsAsNumber ((if one then decimal top else decimal top ++ (codes "/" ++ decimal bottom)) ++ rest)
ratio_begins top bottom rest small true = number_begins top rest small
ratio_begins top bottom rest small false =
    subst BeginsAsNumber (sym (append_assoc (decimal top) (codes "/" ++ decimal bottom) rest)) (number_begins top ((codes "/" ++ decimal bottom) ++ rest) small)

module _ (m : ℕ) (some : 0 < m) (small : m < 2 ^ 64) where
  size_begins : (c : ℕ) (k : Coefficient) (rest : List ℕ) → c < m → IsCoefficient m c k → BeginsAsNumber (size_text k ++ rest)
  size_begins c (Ratio s a b) rest l h = ratio_begins a b rest (let low : a < m = small_number m a some h.small_top in omega arith) (b == 1)
  size_begins c (Residue r) rest l h = number_begins r rest (let same : r ≡ c = h.0 in omega arith)

  -- a term behind its sign, as the first of all
  signed_begins : (negative : Bool) (size rest more : List ℕ) → BeginsAsNumber (size ++ (rest ++ more))
      → BeginsAsNumber ((sign_text true negative ++ (size ++ rest)) ++ more)
  signed_begins true size rest more h = inl refl
  signed_begins false size rest more h = subst BeginsAsNumber (sym (append_assoc size rest more)) h

  pub fractions_begin : (columns : List (List (List Letter))) (f : ℕ → Coefficient) (n : ℕ) (es : List (ℕ × ℕ)) → AreCoefficients m f → ArePairs m n 0 es
      → BeginsAsNumber (fractions_text columns f es)
  fractions_begin columns f n [] are pairs = inr (omega arith, omega arith)
  fractions_begin columns f n (e ∷ es) are (from, within, positive, below, behind) =
      let monomial : List ℕ = codes "*" ++ monomial_text (get_or columns e.0 []) in
      let more : List ℕ = terms_text false columns f es in
      signed_begins (is_negative (f e.1)) (size_text (f e.1)) monomial more (size_begins e.1 (f e.1) (monomial ++ more) below (are e.1 below))
