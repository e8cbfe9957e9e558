-- Euclid's algorithm with cofactors, at its first small rest: a fraction that stands for the residue is the rest over its factor.
use Rattle.std.proofs.Common.{◌≡◌, ℕ, ◌+◌, ◌*◌, ◌<◌, ◌≤◌, Bool, true, false, not, sym, ap, subst, ◌∙◌, inl, inr, arith}
use Rattle.std.proofs.lemmas.Bool.{cases_lt}
use Rattle.std.proofs.Math.Nat.{mul-le-mul_left, mul-le-mul_right, le-mul_of_pos_right, dvd-mul_right, eq-one_of_dvd-one, one-mul}
use Rattle.std.specs.Int.{IsGcd}
use Prim.Native.Nat.{◌∣◌}
use Rattle.zeta_model.specs.Modular.{Same}
use Rattle.fractions.specs.Fractions.{IsSmall, Stands, IsFraction}
use Rattle.fractions.proofs.SmallNumbers.{small_product, small_below, cancel, multiple, above}
use Rattle.fractions.proofs.Standing.{stands_same, stands_other, zero_stands}

-- two rests that follow each other, with their factors; the first is not small, the second is
pub record IsAtFirstSmall (m before rest factor_before factor : ℕ) : Type 0 where
  pub whole : before * factor + rest * factor_before ≡ m
  pub large : m ≤ 2 * (before * before)
  pub small : IsSmall m rest
  pub positive : 0 < factor

module _ (m before rest factor_before factor : ℕ) (scan : IsAtFirstSmall m before rest factor_before factor) where
  -- no small number reaches a multiple of the rest before
  passes : (a k n : ℕ) → IsSmall m a → 1 ≤ k → a ≡ k * before + n → ⊥
  passes a k n small some e = let below = small_below m a before small scan.large in omega (arith, mul-le-mul_right before some)

  -- where the products crosswise are the same modulo m they are equal
  same_products : (a b i : ℕ) → IsSmall m a → IsSmall m b → Same m (a * factor) (b * rest) → a * factor_before + b * before ≡ i * m → a * factor ≡ b * rest
  same_products a b i small_a small_b same sum =
      let pos : 0 < m = omega (arith, small_a) in
      let whole = scan.whole in
      elim (cases_lt (a * factor) (b * rest)) [
        | inl h ↦
            let k = above m (b * rest) (a * factor) pos (sym same) (omega arith) in
            let near = small_product m b rest small_b scan.small in
            elim (cases_lt k.0 1) [
              | inl none ↦ let e : k.0 ≡ 0 = omega arith in omega (arith, k.1, ap (λ x. x * m) e)
              | inr some ↦ absurd (omega (arith, k.1, mul-le-mul_right m some))
            ]
        | inr h ↦
            let k = above m (a * factor) (b * rest) pos same h in
            let parts : a * m ≡ (k.0 * before + i * rest) * m = omega (arith, ap (λ x. a * x) whole, ap (λ x. before * x) k.1, ap (λ x. rest * x) sum) in
            let value : a ≡ k.0 * before + i * rest = cancel m a (k.0 * before + i * rest) pos parts in
            elim (cases_lt k.0 1) [
              | inl none ↦ let e : k.0 ≡ 0 = omega arith in omega (arith, k.1, ap (λ x. x * m) e)
              | inr some ↦ absurd (passes a k.0 (i * rest) small_a some value)
            ]
      ]

  -- with the sign of the rest, a reduced pair is the rest and its factor
  with_its_sign : (a b : ℕ) → IsSmall m a → IsSmall m b → IsGcd a b 1 → Same m (a * factor) (b * rest) → Same m (a * factor_before + b * before) 0
      → (a ≡ rest) × (b ≡ factor)
  with_its_sign a b small_a small_b reduced same zero_sum =
      let pos : 0 < m = omega (arith, small_a) in
      let whole = scan.whole in
      let i = multiple m (a * factor_before + b * before) zero_sum in
      let equal = same_products a b i.0 small_a small_b same i.1 in
      let top : a ≡ i.0 * rest = cancel m a (i.0 * rest) pos (omega (arith, ap (λ x. a * x) whole, ap (λ x. before * x) equal, ap (λ x. rest * x) i.1)) in
      let bottom : b ≡ i.0 * factor = cancel m b (i.0 * factor) pos
      (omega (arith, ap (λ x. b * x) whole, ap (λ x. factor_before * x) equal, ap (λ x. factor * x) i.1)) in
      let one : i.0 ≡ 1 = eq-one_of_dvd-one
      (reduced.2 i.0 (subst (λ x. i.0 ∣ x) (sym top) (dvd-mul_right i.0 rest)) (subst (λ x. i.0 ∣ x) (sym bottom) (dvd-mul_right i.0 factor))) in
      (top ∙ ap (λ x. x * rest) one ∙ one-mul rest, bottom ∙ ap (λ x. x * factor) one ∙ one-mul factor)

  -- with the other sign there is zero alone
  with_other_sign : (a b : ℕ) → IsSmall m a → IsSmall m b → Same m (a * factor + b * rest) 0 → Same m (a * factor_before) (b * before) → a ≡ 0
  with_other_sign a b small_a small_b zero_sum same =
      let pos : 0 < m = omega (arith, small_a) in
      let whole = scan.whole in
      let i = multiple m (a * factor + b * rest) zero_sum in
      elim (cases_lt i.0 1) [
        | inl none ↦
            let e : i.0 ≡ 0 = omega arith in
            omega (arith, i.1, ap (λ x. x * m) e, le-mul_of_pos_right a scan.positive)
        | inr some ↦
            elim (cases_lt (a * factor_before) (b * before)) [
              | inl h ↦
                  let k = above m (b * before) (a * factor_before) pos (sym same) (omega arith) in
                  let top : a + k.0 * rest ≡ i.0 * before =
                  cancel m (a + k.0 * rest) (i.0 * before) pos
                  (omega (arith, ap (λ x. a * x) whole, ap (λ x. before * x) i.1, ap (λ x. rest * x) k.1)) in
                  let bottom : b ≡ k.0 * factor + i.0 * factor_before =
                  cancel m b (k.0 * factor + i.0 * factor_before) pos
                  (omega (arith, ap (λ x. b * x) whole, ap (λ x. factor * x) k.1, ap (λ x. factor_before * x) i.1)) in
                  elim (cases_lt k.0 1) [
                    | inl none ↦
                        let e : k.0 ≡ 0 = omega arith in
                        absurd (passes a i.0 0 small_a some (omega (arith, top, ap (λ x. x * rest) e)))
                    | inr more ↦
                        let reach : factor ≤ b = omega (arith, bottom, mul-le-mul_right factor more) in
                        absurd (omega (arith, i.1, mul-le-mul_right m some, mul-le-mul_left a reach, small_product m a b small_a small_b, small_product m b rest small_b scan.small))
                  ]
              | inr h ↦
                  let k = above m (a * factor_before) (b * before) pos same h in
                  let top : a ≡ i.0 * before + k.0 * rest =
                  cancel m a (i.0 * before + k.0 * rest) pos (omega (arith, ap (λ x. a * x) whole, ap (λ x. before * x) i.1, ap (λ x. rest * x) k.1)) in
                  absurd (passes a i.0 (k.0 * rest) small_a some top)
            ]
      ]

  module _ (c : ℕ) where
    same_case : (s : Bool) (a b : ℕ) → Stands m c s rest factor → Stands m c (not s) before factor_before → IsSmall m a → IsSmall m b → IsGcd a b 1
        → Stands m c s a b → (a ≡ rest) × (b ≡ factor)
    same_case s a b here earlier small_a small_b reduced stands =
        with_its_sign a b small_a small_b reduced
        (stands_same m c s a b rest factor (omega (arith, small_a)) stands here)
        (stands_other m c s a b before factor_before stands earlier)

    -- a fraction of the other sign is zero, which stands with either sign
    other_case : (s : Bool) (a b : ℕ) → Stands m c (not s) rest factor → Stands m c s before factor_before → IsFraction m c s a b → a ≡ 0
    other_case s a b here earlier f =
        with_other_sign a b f.small_top f.small_bottom
        (stands_other m c s a b rest factor f.stands here)
        (stands_same m c s a b before factor_before (omega (arith, f.small_top)) f.stands earlier)

    pub is_rest : (s negative : Bool) (a b : ℕ) → Stands m c s rest factor → Stands m c (not s) before factor_before → IsFraction m c negative a b
        → (a ≡ rest) × (b ≡ factor)
    is_rest false false a b here earlier f = same_case false a b here earlier f.small_top f.small_bottom f.reduced f.stands
    is_rest true true a b here earlier f = same_case true a b here earlier f.small_top f.small_bottom f.reduced f.stands
    is_rest false true a b here earlier f =
        let none = other_case true a b here earlier f in
        absurd (cc (f.unsigned_zero none))
    is_rest true false a b here earlier f =
        let none = other_case false a b here earlier f in
        same_case true a b here earlier f.small_top f.small_bottom f.reduced
        (subst (λ x. Stands m c true x b) (sym none) (zero_stands m c false b (subst (λ x. Stands m c false x b) none f.stands)))
