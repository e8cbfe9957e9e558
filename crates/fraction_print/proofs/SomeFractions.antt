-- Each residue has a fraction or none, so each has a coefficient; and no residue has two.
use Rattle.std.proofs.Common.{◌≡◌, ℕ, zero, suc, ◌+◌, ◌*◌, ◌/◌, ◌%◌, ◌<◌, ◌≤◌, Bool, true, false, not, refl, sym, ◌∙◌, ap, subst, inl, inr, arith}
use Rattle.std.specs.Int.{IsGcd}
use Rattle.std.proofs.Math.Bool.{not-not}
use Rattle.std.proofs.Math.Nat.{le-mul_of_pos_right, mod_self, zero-mod}
use Rattle.std.proofs.lemmas.Bool.{cases_eq, cases_lt}
use Rattle.std.proofs.lemmas.Nat.{mod_below}
use Rattle.std.proofs.lemmas.Nat.Gcd.{IsGcd-from_mod, IsGcd-from_zero, same_from_IsGcd}
use Rattle.zeta_model.specs.Modular.{Same}
use Rattle.fractions.specs.Fractions.{IsSmall, Stands, IsFraction}
use Rattle.fractions.proofs.SmallNumbers.{positive_rest}
use Rattle.fractions.proofs.Standing.{stands_step}
use Rattle.fractions.proofs.EuclidStep.{next_whole, next_factor_positive}
use Rattle.fractions.proofs.FirstSmall.{IsAtFirstSmall, is_rest}
use Rattle.fractions.proofs.Answering.{is_negative}
use Rattle.fractions.proofs.Uniqueness.{unique}
use Rattle.fraction_print.specs.FractionTexts.{Coefficient, IsCoefficient, AreCoefficients}
use Rattle.fraction_print.specs.FractionTexts.Coefficient.{Ratio, Residue}

-- two numbers have a greatest common divisor
some_gcd : (n a b : ℕ) → b ≤ n → (g : ℕ) × IsGcd a b g
some_gcd n a zero h = (a, IsGcd-from_zero a 0 refl)
some_gcd zero a (suc b) h = absurd (omega arith)
some_gcd (suc n) a (suc b) h =
    let below : a % suc b < suc b = mod_below a (suc b) (omega arith) in
    let (g, is) = some_gcd n (suc b) (a % suc b) (omega (arith, below, h)) in
    (g, IsGcd-from_mod a (suc b) g is)

-- what Euclid's algorithm with cofactors keeps until the first small rest
record IsScan (m c before rest factor_before factor : ℕ) (negative : Bool) : Type 0 where
  whole : before * factor + rest * factor_before ≡ m
  large : m ≤ 2 * (before * before)
  falls : rest < before
  positive : 0 < factor
  here : Stands m c negative rest factor
  earlier : Stands m c (not negative) before factor_before

module _ (m c : ℕ) (pos : 0 < m) where
  -- a reduced rest over its factor, with its sign
  answered : (negative : Bool) (rest factor : ℕ) → IsSmall m rest → IsSmall m factor → 0 < factor → IsGcd rest factor 1 → Stands m c negative rest factor
      → (k : Coefficient) × IsCoefficient m c k
  answered true rest factor small small_factor positive reduced stands =
      (Ratio _ rest factor, is_negative m c true rest factor refl small small_factor positive reduced stands)
  answered false rest factor small small_factor positive reduced stands = (
    Ratio false rest factor,
    record {
      small_top = small;
      small_bottom = small_factor;
      divides = positive;
      reduced = reduced;
      stands = stands;
      unsigned_zero = λ _. refl;
    },
  )

  at_small : (before rest factor_before factor : ℕ) (negative : Bool) → IsScan m c before rest factor_before factor negative → IsSmall m rest
      → (k : Coefficient) × IsCoefficient m c k
  at_small before rest factor_before factor negative s small =
      let scan : IsAtFirstSmall m before rest factor_before factor = record { whole = s.whole; large = s.large; small = small; positive = s.positive } in
      let only : (r : Bool) (a b : ℕ) → IsFraction m c r a b → (a ≡ rest) × (b ≡ factor) =
      λ r a b f. is_rest m before rest factor_before factor scan c negative r a b s.here s.earlier f in
      elim (cases_lt (2 * (factor * factor)) m) [
        | inr great ↦ (
          Residue c,
          (
            refl,
            λ r a b f.
                let is : b ≡ factor = (only r a b f).1 in
                let low : 2 * (b * b) < m = f.small_bottom in
                absurd (omega (arith, great, subst (λ x. 2 * (x * x) < m) is low)),
          ),
        )
        | inl low ↦
            let (g, is_gcd) = some_gcd factor rest factor (omega arith) in
            elim (cases_eq g 1) [
              | inl one ↦ answered negative rest factor small low s.positive (subst (IsGcd rest factor) one is_gcd) s.here
              | inr other ↦ (
                Residue c,
                (
                  refl,
                  λ r a b f.
                      let is = only r a b f in
                      let reduced : IsGcd rest factor 1 = subst (λ x. IsGcd x factor 1) is.0 (subst (λ x. IsGcd a x 1) is.1 f.reduced) in
                      other (same_from_IsGcd rest factor g 1 is_gcd reduced),
                ),
              )
            ]
      ]

  scanned : (n before rest factor_before factor : ℕ) (negative : Bool) → rest ≤ n → IsScan m c before rest factor_before factor negative
      → (k : Coefficient) × IsCoefficient m c k
  scanned zero before rest factor_before factor negative l s =
      at_small before rest factor_before factor negative s (let z : rest ≡ 0 = omega (arith, l) in subst (λ x. 2 * (x * x) < m) (sym z) (omega (arith, pos)))
  scanned (suc n) before rest factor_before factor negative l s = elim (cases_lt (2 * (rest * rest)) m) [
    | inl small ↦ at_small before rest factor_before factor negative s small
    | inr large ↦
        let some : 0 < rest = positive_rest m rest pos large in
        let below : before % rest < rest = mod_below before rest some in
        scanned n rest (before % rest) factor (factor_before + before / rest * factor) (not negative) (omega (arith, below, l)) (record {
          whole = next_whole m before rest factor_before factor s.whole;
          large = large;
          falls = below;
          positive = next_factor_positive m before rest factor_before factor s.whole some s.falls s.positive;
          here = stands_step m c negative before rest factor_before factor pos s.here s.earlier;
          earlier = subst (λ x. Stands m c x rest factor) (sym (not-not negative)) s.here;
        })
  ]

  pub some_coefficient : c < m → (k : Coefficient) × IsCoefficient m c k
  some_coefficient small = scanned c m c 0 1 false (omega arith) (record {
    whole = omega arith;
    large = squares;
    falls = small;
    positive = omega arith;
    here = ap (λ x. x % m) (omega arith);
    earlier = whole_is_none;
  })
    where
      squares : m ≤ 2 * (m * m)
      squares = omega (arith, le-mul_of_pos_right m pos)

      whole_is_none : Same m (m + 0 * c) 0
      whole_is_none = ap (λ x. x % m) (let e : m + 0 * c ≡ m = omega arith in e) ∙ mod_self m ∙ sym (zero-mod m)

-- so there is a coefficient for each residue
pub some_coefficients : (m : ℕ) → 3 ≤ m → (f : ℕ → Coefficient) × AreCoefficients m f
some_coefficients m from = (λ c. (at c).0, λ c l. (at c).1 l)
  where
    at : (c : ℕ) → (k : Coefficient) × (c < m → IsCoefficient m c k)
    at c = elim (cases_lt c m) [
      | inl l ↦ let (k, is) = some_coefficient m c (omega (arith, from)) l in (k, λ _. is)
      | inr past ↦ (Residue c, λ l. absurd (omega (arith, past, l)))
    ]

pub one_coefficient : (m c : ℕ) (k j : Coefficient) → IsCoefficient m c k → IsCoefficient m c j → k ≡ j
one_coefficient m c (Ratio s a b) (Ratio r p q) hk hj = let u = unique m c s r a b p q hk hj in λ i. Ratio (u.0 i) (u.1 i) (u.2 i)
one_coefficient m c (Ratio s a b) (Residue r) hk hj = absurd (hj.1 s a b hk)
one_coefficient m c (Residue r) (Ratio s a b) hk hj = absurd (hk.1 s a b hj)
one_coefficient m c (Residue r) (Residue q) hk hj = ap Residue (hk.0 ∙ sym hj.0)
