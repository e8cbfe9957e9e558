-- Two pairs that stand for one residue, or for opposite ones, and their products crosswise.
use Rattle.std.proofs.Common.{◌≡◌, ℕ, ◌+◌, ◌*◌, ◌/◌, ◌%◌, ◌<◌, Bool, true, false, not, sym, ap, ◌∙◌, arith}
use Rattle.std.proofs.Math.Nat.{mod-add-div'}
use Rattle.zeta_model.specs.Modular.{Same}
use Rattle.zeta_model.proofs.ModularLemmas.{same-add_left, same-add_right, same-mul_left, same-mul_right, same-cancel}
use Rattle.fractions.specs.Fractions.{Stands}

module _ (m c : ℕ) where
  -- what a b - c of one pair gives, times a number
  pub opposite_times : (a b t : ℕ) → Same m (a + b * c) 0 → Same m (a * t + b * c * t) 0
  opposite_times a b t p =
      let spread : a * t + b * c * t ≡ (a + b * c) * t = grind arith in
      let none : 0 * t ≡ 0 = omega arith in
      ap (λ x. x % m) spread ∙ same-mul_right m (a + b * c) 0 t p ∙ ap (λ x. x % m) none

  pub stands_same : (s : Bool) (a b r t : ℕ) → 0 < m → Stands m c s a b → Stands m c s r t → Same m (a * t) (b * r)
  stands_same false a b r t pos p q =
      let turn : b * c * t ≡ b * (t * c) = grind arith in
      same-mul_right m a (b * c) t p ∙ ap (λ x. x % m) turn ∙ same-mul_left m (t * c) r b (sym q)
  stands_same true a b r t pos p q =
      let turn : b * r + b * c * t ≡ r * b + t * c * b = grind arith in
      same-cancel m (a * t) (b * r) (b * c * t) pos
      (opposite_times a b t p ∙ sym (ap (λ x. x % m) turn ∙ opposite_times r t b q))

  pub stands_other : (s : Bool) (a b r t : ℕ) → Stands m c s a b → Stands m c (not s) r t → Same m (a * t + b * r) 0
  stands_other false a b r t p q =
      let turn : b * c * t + b * r ≡ r * b + t * c * b = grind arith in
      same-add_right m (a * t) (b * c * t) (b * r) (same-mul_right m a (b * c) t p) ∙ ap (λ x. x % m) turn ∙ opposite_times r t b q
  stands_other true a b r t p q =
      let turn : b * (t * c) ≡ b * c * t = grind arith in
      same-add_left m (b * r) (b * (t * c)) (a * t) (same-mul_left m r (t * c) b q) ∙ ap (λ x. (a * t + x) % m) turn ∙ opposite_times a b t p

  -- zero stands with either sign
  pub zero_stands : (s : Bool) (b : ℕ) → Stands m c s 0 b → Stands m c (not s) 0 b
  zero_stands false b p = ap (λ x. x % m) (omega arith) ∙ sym p
  zero_stands true b p = sym (ap (λ x. x % m) (omega arith) ∙ p)

  -- one step of Euclid's algorithm, with cofactors
  pub stands_step : (s : Bool) (before rest factor_before factor : ℕ) → 0 < m → Stands m c s rest factor → Stands m c (not s) before factor_before
      → Stands m c (not s) (before % rest) (factor_before + before / rest * factor)
  stands_step false before rest factor_before factor pos p q =
      let k : ℕ = before / rest in
      let parts : before % rest + (factor_before + k * factor) * c ≡ before % rest + factor_before * c + k * (factor * c) = grind arith in
      let whole : before % rest + factor_before * c + k * rest ≡ before + factor_before * c = omega (arith, mod-add-div' before rest) in
      ap (λ x. x % m) parts
      ∙ same-add_left m (k * (factor * c)) (k * rest) (before % rest + factor_before * c) (same-mul_left m (factor * c) rest k (sym p))
      ∙ ap (λ x. x % m) whole ∙ q
  stands_step true before rest factor_before factor pos p q =
      let k : ℕ = before / rest in
      let whole : before % rest + k * rest ≡ before = omega (arith, mod-add-div' before rest) in
      let parts : (factor_before + k * factor) * c + k * rest ≡ factor_before * c + (rest * k + factor * c * k) = grind arith in
      let none : factor_before * c + 0 ≡ factor_before * c = omega arith in
      same-cancel m (before % rest) ((factor_before + k * factor) * c) (k * rest) pos
      (ap (λ x. x % m) whole ∙ q ∙ sym (ap (λ x. x % m) parts
      ∙ same-add_left m (rest * k + factor * c * k) 0 (factor_before * c) (opposite_times rest factor k p) ∙ ap (λ x. x % m) none))
