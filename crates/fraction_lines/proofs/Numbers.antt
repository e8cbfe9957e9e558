-- The number of a coefficient, with its sign, is its residue.
use Rattle.std.proofs.Common.{◌≡◌, ℕ, ◌+◌, ◌-◌, ◌*◌, ◌%◌, ◌<◌, ◌≤◌, Bool, true, false, Some, None, refl, sym, ◌∙◌, ap, arith}
use Rattle.std.specs.Prelude.{◌==◌, if◌then◌else◌}
use Rattle.std.proofs.lemmas.Bool.{eqb-true}
use Rattle.zeta_model.specs.Modular.{Same}
use Rattle.zeta_model.proofs.ModularLemmas.{same-mul_left, same-mul_right, same-add_left, same-cancel, same-multiple}
use Rattle.fractions.specs.Fractions.{Stands, IsFraction}
use Rattle.fractions.proofs.Uniqueness.{has_inverse}
use Rattle.zeta_expr.specs.declared.expr.Factor.TheVariants.{Number}
use Rattle.zeta_expr.specs.Meaning.{inverse_of, number_in}
use Rattle.fraction_print.specs.FractionTexts.{Coefficient, IsCoefficient, is_negative}
use Rattle.fraction_print.specs.FractionTexts.Coefficient.{Ratio, Residue}
use Rattle.fraction_lines.specs.FractionLines.{size_factor}
use Rattle.fraction_lines.proofs.Inverting.{inverse_inverts}

module _ (m : ℕ) (from : 3 ≤ m) where
  -- the number of a ratio is its top times an inverse of its bottom
  quotient : (c a b : ℕ) (s t : Bool) → (b == 1) ≡ t → IsFraction m c s a b
      → (y : ℕ) × Same m (b * y) 1 × (number_in m (Number a (if t then None else Some b)) ≡ a * y)
  quotient c a b s true e f = (1, ap (λ n. n % m) (omega (arith, eqb-true b 1 e)), omega arith)
  quotient c a b s false e f = (inverse_of m b, inverse_inverts m b (omega (arith, from)) (has_inverse m c s a b f), refl)

  -- a positive one stands for the residue
  positive_number : (c a b y : ℕ) → Same m (b * y) 1 → Stands m c false a b → Same m (a * y) c
  positive_number c a b y unit stands =
      same-mul_right m a (b * c) y stands ∙ ap (λ n. n % m) (let e : b * c * y ≡ c * (b * y) = grind arith in e)
      ∙ same-mul_left m (b * y) 1 c unit ∙ ap (λ n. n % m) (omega arith)

  -- and so does the opposite of a negative one
  negative_number : (c a b y : ℕ) → Same m (b * y) 1 → Stands m c true a b → Same m ((m - 1) * (a * y)) c
  negative_number c a b y unit stands =
      let pos : 0 < m = omega (arith, from) in
      let parts : (a + b * c) * y ≡ a * y + c * (b * y) = grind arith in
      let none : Same m (a * y + c * (b * y)) 0 =
      ap (λ n. n % m) (sym parts) ∙ same-mul_right m (a + b * c) 0 y stands ∙ ap (λ n. n % m) (omega arith) in
      let sum : Same m (a * y + c) 0 =
      ap (λ n. n % m) (let e : a * y + c ≡ a * y + c * 1 = omega arith in e)
      ∙ same-add_left m (c * 1) (c * (b * y)) (a * y) (same-mul_left m 1 (b * y) c (sym unit)) ∙ none in
      let whole : Same m ((m - 1) * (a * y) + a * y) 0 =
      ap (λ n. n % m) (multiples m (a * y) pos) ∙ same-multiple m 0 (a * y) in
      same-cancel m ((m - 1) * (a * y)) c (a * y) pos (whole ∙ sym sum ∙ ap (λ n. n % m) (let e : a * y + c ≡ c + a * y = omega arith in e))
    where
      multiples : (m x : ℕ) → 0 < m → (m - 1) * x + x ≡ 0 + m * x
      multiples m x pos = let e : m - 1 + 1 ≡ m = omega (arith, pos) in omega (arith, ap (λ n. n * x) e)

  pub coefficient_number : (c : ℕ) (k : Coefficient) → IsCoefficient m c k
      → Same m ((if is_negative k then m - 1 else 1) * number_in m (size_factor k)) c
  coefficient_number c (Ratio false a b) f =
      let (y, unit, is) = quotient c a b false (b == 1) refl f in
      ap (λ n. n % m) (let e : 1 * number_in m (size_factor (Ratio false a b)) ≡ number_in m (size_factor (Ratio false a b)) = omega arith in e ∙ is)
      ∙ positive_number c a b y unit f.stands
  coefficient_number c (Ratio true a b) f =
      let (y, unit, is) = quotient c a b true (b == 1) refl f in
      ap (λ n. (m - 1) * n % m) is ∙ negative_number c a b y unit f.stands
  coefficient_number c (Residue r) h = ap (λ n. n % m) (let e : 1 * r ≡ r = omega arith in e ∙ h.0)
