-- The terms of a row's text with fractions are refused for no cause.
use Rattle.std.proofs.Common.{◌≡◌, ℕ, ◌+◌, ◌<◌, ◌≤◌, Bool, true, false, Some, None, List, [], ◌∷◌, length, map, get_or, refl, ap, ◌∙◌, arith}
use Rattle.std.specs.Prelude.{◌==◌, if◌then◌else◌, not}
use Rattle.std.specs.List.{filter_map, find}
use Rattle.std.proofs.lemmas.List.Sums.{sum_by-cons}
use Rattle.fractions.proofs.Uniqueness.{has_inverse as bottom_coprime}
use Rattle.zeta_expr.specs.declared.expr.Factor.{Factor}
use Rattle.zeta_expr.specs.declared.expr.Factor.TheVariants.{Number}
use Rattle.zeta_expr.specs.Weights as written
use Rattle.zeta_expr.specs.Meaning.{has_inverse, bottom_in, first_lacking, is_tested, refusal_of, first_of}
use Rattle.zeta_expr.proofs.ScanLemmas.{first_bottom, first_bottom-cons, first_weight, first_weight-cons, first_depth, first_depth-cons, refusal-none}
use Rattle.poly_print.specs.Polynomials.{powers_of, ArePairs}
use Rattle.poly_lines.specs.Lines.{power_factor}
use Rattle.poly_lines.proofs.MonomialMeaning.{Word}
use Rattle.poly_lines.proofs.Passes.{IsPassed, powers-bottoms, term-weight, term-depth, other-none, greater-none, row-passes}
use Rattle.fraction_print.specs.FractionTexts.{Coefficient, IsCoefficient, AreCoefficients}
use Rattle.fraction_print.specs.FractionTexts.Coefficient.{Ratio, Residue}
use Rattle.fraction_lines.specs.FractionLines.{size_factor, coefficient_form, fraction_terms}
use Rattle.fraction_lines.proofs.Inverting.{inverse_found}

size_weight : (k : Coefficient) → written.weight_in (size_factor k) ≡ 0
size_weight (Ratio s a b) = refl
size_weight (Residue r) = refl

size_depth : (k : Coefficient) → written.depth_in (size_factor k) ≡ 0
size_depth (Ratio s a b) = refl
size_depth (Residue r) = refl

module _ (m w d : ℕ) (from : 3 ≤ m) (columns : List (List Word)) (passed : (col : ℕ) → col < length columns → IsPassed w d (get_or columns col []))
    (f : ℕ → Coefficient) (are : AreCoefficients m f) where
  lacks : ℕ → Bool
  lacks b = not (has_inverse m b)

  -- a bottom that has an inverse is not told
  ratio_lacks : (t : Bool) (a b : ℕ) (fs : List Factor) → filter_map bottom_in fs ≡ [] → has_inverse m b ≡ true
      → first_lacking m (Number a (if t then None else Some b) ∷ fs) ≡ None
  ratio_lacks true a b fs q e = ap (λ (bs : List ℕ). find (λ b. not (has_inverse m b)) bs) q
  ratio_lacks false a b fs q e = ap (λ (bs : List ℕ). find (λ b. not (has_inverse m b)) (b ∷ bs)) q ∙ ap (λ h. if not h then Some b else None) e

  size_lacks : (c : ℕ) (k : Coefficient) (fs : List Factor) → IsCoefficient m c k → filter_map bottom_in fs ≡ []
      → first_lacking m (size_factor k ∷ fs) ≡ None
  size_lacks c (Ratio s a b) fs h q = ratio_lacks (b == 1) a b fs q (inverse_found m b (omega (arith, from)) (bottom_coprime m c s a b h))
  size_lacks c (Residue r) fs h q = ap (λ (bs : List ℕ). find (λ b. not (has_inverse m b)) bs) q

  no_bottom : (low : ℕ) (es : List (ℕ × ℕ)) → ArePairs m (length columns) low es
      → first_bottom m (map (λ (e : ℕ × ℕ). coefficient_form columns e.0 (f e.1)) es) ≡ None
  no_bottom low [] a = refl
  no_bottom low (e ∷ es) (atleast, within, some, small, rest) =
      let ps = powers_of (get_or columns e.0 []) in
      first_bottom-cons m (coefficient_form columns e.0 (f e.1)) (map (λ (e : ℕ × ℕ). coefficient_form columns e.0 (f e.1)) es)
      ∙ (λ i. first_of (size_lacks e.1 (f e.1) (map power_factor ps) (are e.1 small) (powers-bottoms ps) i) (no_bottom (e.0 + 1) es rest i))

  form_weight : (col : ℕ) (k : Coefficient) → col < length columns → written.weight_of (coefficient_form columns col k) ≡ w
  form_weight col k l =
      let fs = map power_factor (powers_of (get_or columns col [])) in
      omega (
        arith,
        sum_by-cons written.weight_in (size_factor k) fs,
        size_weight k,
        sum_by-cons written.weight_in (Number 0 None) fs,
        term-weight m w d columns passed (col, 0) l,
      )

  form_depth : (col : ℕ) (k : Coefficient) → col < length columns → written.depth_of (coefficient_form columns col k) ≤ d
  form_depth col k l =
      let fs = map power_factor (powers_of (get_or columns col [])) in
      omega (
        arith,
        sum_by-cons written.depth_in (size_factor k) fs,
        size_depth k,
        sum_by-cons written.depth_in (Number 0 None) fs,
        term-depth m w d columns passed (col, 0) l,
      )

  no_weight : (low : ℕ) (es : List (ℕ × ℕ)) → ArePairs m (length columns) low es
      → first_weight m w (map (λ (e : ℕ × ℕ). coefficient_form columns e.0 (f e.1)) es) ≡ None
  no_weight low [] a = refl
  no_weight low (e ∷ es) (atleast, within, some, small, rest) =
      let t = coefficient_form columns e.0 (f e.1) in
      first_weight-cons m w t (map (λ (e : ℕ × ℕ). coefficient_form columns e.0 (f e.1)) es)
      ∙ (λ i. first_of (other-none (is_tested m t) (written.weight_of t) w (form_weight e.0 (f e.1) within) i)
      (no_weight (e.0 + 1) es rest i))

  no_depth : (low : ℕ) (es : List (ℕ × ℕ)) → ArePairs m (length columns) low es
      → first_depth m d (map (λ (e : ℕ × ℕ). coefficient_form columns e.0 (f e.1)) es) ≡ None
  no_depth low [] a = refl
  no_depth low (e ∷ es) (atleast, within, some, small, rest) =
      let t = coefficient_form columns e.0 (f e.1) in
      first_depth-cons m d t (map (λ (e : ℕ × ℕ). coefficient_form columns e.0 (f e.1)) es)
      ∙ (λ i. first_of (greater-none (is_tested m t) (written.depth_of t) d (form_depth e.0 (f e.1) within) i)
      (no_depth (e.0 + 1) es rest i))

  pub fraction_terms_pass : (es : List (ℕ × ℕ)) → ArePairs m (length columns) 0 es → refusal_of m w d (fraction_terms columns f es) ≡ None
  fraction_terms_pass [] a = row-passes m w d columns passed m [] tt
  fraction_terms_pass (e ∷ es) a =
      refusal-none m w d (fraction_terms columns f (e ∷ es)) (no_bottom 0 (e ∷ es) a) (no_weight 0 (e ∷ es) a) (no_depth 0 (e ∷ es) a)
