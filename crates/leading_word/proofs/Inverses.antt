-- When the product of the factorials of the multiplicities has an inverse modulo m.
use Rattle.std.proofs.Common.{◌≡◌, ℕ, zero, suc, ◌+◌, ◌-◌, ◌*◌, ◌%◌, ◌<◌, ◌≤◌, ◌⊎◌, inl, inr, List, [], ◌∷◌, length, refl, sym, ap, subst, ◌∙◌, arith, length-append}
use Rattle.std.proofs.lemmas.Bool.{cases_eq}
use Rattle.std.proofs.Math.Nat.{mod-lt}
use Rattle.zeta_model.specs.declared.Letter.{Letter}
use Rattle.zeta_model.specs.Modular.{Same}
use Rattle.zeta_model.specs.Sums.{single, sum_of}
use Rattle.zeta_model.proofs.ModularLemmas.{same-mul, same-mul_left, same-mod}
use Rattle.zeta_model.proofs.ProductWords.{single-other}
use Rattle.lyndon_words.specs.Lyndon.{AllLyndon, IsFactors, joined}
use Rattle.leading_word.specs.Shuffles.{factorials_of}
use Rattle.zeta_model.specs.Inverses.{HasInverse}
use Rattle.leading_word.proofs.Ways.{single-itself}
use Rattle.leading_word.proofs.Factorials.{same_or_other, sum_of-within}

abbrev Word : Type 0
Word = List Letter

module _ (m : ℕ) where
  inverse-product : (a c : ℕ) → HasInverse m a → HasInverse m c → HasInverse m (a * c)
  inverse-product a c (b, p) (d, q) =
      let e : a * c * (b * d) ≡ a * b * (c * d) = omega arith in
      (b * d, ap (λ x. x % m) e ∙ same-mul m (a * b) 1 (c * d) 1 p q)

  inverse-left : (a c : ℕ) → HasInverse m (a * c) → HasInverse m a
  inverse-left a c (b, p) = let e : a * (c * b) ≡ a * c * b = omega arith in (c * b, ap (λ x. x % m) e ∙ p)

  inverse-right : (a c : ℕ) → HasInverse m (a * c) → HasInverse m c
  inverse-right a c (b, p) = let e : c * (a * b) ≡ a * c * b = omega arith in (a * b, ap (λ x. x % m) e ∙ p)

  -- each number up to a multiplicity has an inverse
  abbrev pub Invertible : List Word → Type 0
  Invertible us = (w : Word) (n : ℕ) → 0 < n → n ≤ sum_of us w → HasInverse m n

  pub inverse-factorials_of : (us : List Word) → Invertible us → HasInverse m (factorials_of us)
  inverse-factorials_of [] h = (1, refl)
  inverse-factorials_of (u ∷ us) h =
      inverse-product (sum_of (u ∷ us) u) (factorials_of us) (h u (sum_of (u ∷ us) u) (omega (arith, single-itself u)) (omega arith))
      (inverse-factorials_of us (λ w n p q. h w n p (omega arith)))

  pub multiplicities-inverse : (us : List Word) → HasInverse m (factorials_of us) → Invertible us
  multiplicities-inverse [] h w n p q = absurd (omega arith)
  multiplicities-inverse (u ∷ us) h w n p q =
      go (multiplicities-inverse us (inverse-right (sum_of (u ∷ us) u) (factorials_of us) h)) (same_or_other u w) (cases_eq n (sum_of (u ∷ us) w))
    where
      go : Invertible us → (u ≡ w) ⊎ (u ≡ w → ⊥) → (n ≡ sum_of (u ∷ us) w) ⊎ (n ≡ sum_of (u ∷ us) w → ⊥) → HasInverse m n
      go less (inr ne) t = less w n p (omega (arith, q, single-other u w (λ e. ne (sym e))))
      go less (inl e) (inl s) = subst (HasInverse m) (ap (sum_of (u ∷ us)) e ∙ sym s) (inverse-left (sum_of (u ∷ us) u) (factorials_of us) h)
      go less (inl e) (inr ns) =
          let one : single u w ≡ 1 = ap (λ t. single t w) e ∙ single-itself w in
          less w n p (omega (arith, q, one, ns))

  length-lyndon : (us : List Word) → AllLyndon us → length us ≤ length (joined us)
  length-lyndon [] al = omega arith
  length-lyndon (u ∷ us) al = omega (arith, length-append u (joined us), al.0.nonempty, length-lyndon us al.1)

  -- it is enough that each number from 2 to the weight has one
  pub inverse-within_weight : (u : Word) (us : List Word) → IsFactors u us → ((n : ℕ) → 2 ≤ n → n ≤ length u → HasInverse m n)
      → HasInverse m (factorials_of us)
  inverse-within_weight u us f h = inverse-factorials_of us
      (λ w n p q. go n p (omega (arith, q, sum_of-within us w, length-lyndon us f.lyndon, ap length f.whole)))
    where
      go : (n : ℕ) → 0 < n → n ≤ length u → HasInverse m n
      go zero p q = absurd (omega arith)
      go (suc zero) p q = (1, refl)
      go (suc (suc n)) p q = h (suc (suc n)) (omega arith) q

-- a place below n where P holds, or that there is none
first_or_none : (P : ℕ → Type 0) → ((k : ℕ) → P k ⊎ (P k → ⊥)) → (n : ℕ) → ((k : ℕ) × (k < n) × P k) ⊎ ((k : ℕ) → k < n → P k → ⊥)
first_or_none P test zero = inr (λ k l p. absurd (omega arith))
first_or_none P test (suc n) = go (first_or_none P test n) (test n)
  where
    go : ((k : ℕ) × (k < n) × P k) ⊎ ((k : ℕ) → k < n → P k → ⊥) → P n ⊎ (P n → ⊥) → ((k : ℕ) × (k < suc n) × P k) ⊎ ((k : ℕ) → k < suc n → P k → ⊥)
    go (inl (k, l, p)) t = inl (k, omega arith, p)
    go (inr no_lower) (inl p) = inl (n, omega arith, p)
    go (inr no_lower) (inr no_last) = inr (λ k l p. elim (cases_eq k n) [ inl e ↦ no_last (subst P e p) | inr ne ↦ no_lower k (omega arith) p ])

inverse_or_none : (m n : ℕ) → 0 < m → HasInverse m n ⊎ (HasInverse m n → ⊥)
inverse_or_none m n pos = elim (first_or_none (λ b. Same m (n * b) 1) (λ b. cases_eq (n * b % m) (1 % m)) m) [
  | inl (b, l, p) ↦ inl (b, p)
  | inr none ↦ inr (λ i. none (i.0 % m) (mod-lt i.0 pos) (same-mul_left m (i.0 % m) i.0 n (same-mod m i.0) ∙ i.1))
]

-- where the product has no inverse, some number from 2 to the weight has none
pub no_inverse-within_weight : (m : ℕ) (u : Word) (us : List Word) → 0 < m → IsFactors u us → (HasInverse m (factorials_of us) → ⊥)
    → (n : ℕ) × (2 ≤ n) × (n ≤ length u) × (HasInverse m n → ⊥)
no_inverse-within_weight m u us pos f no_inverse = elim (first_or_none (λ k. HasInverse m (k + 2) → ⊥) test (length u - 1)) [
  | inl (k, l, p) ↦ (k + 2, omega arith, omega arith, p)
  | inr none ↦ absurd (no_inverse (inverse-within_weight m u us f (λ n two most. has n two most none)))
]
  where
    test : (k : ℕ) → (HasInverse m (k + 2) → ⊥) ⊎ ((HasInverse m (k + 2) → ⊥) → ⊥)
    test k = elim (inverse_or_none m (k + 2) pos) [ inl i ↦ inr (λ none. none i) | inr none ↦ inl none ]

    has : (n : ℕ) → 2 ≤ n → n ≤ length u → ((k : ℕ) → k < length u - 1 → (HasInverse m (k + 2) → ⊥) → ⊥) → HasInverse m n
    has n two most none = elim (inverse_or_none m n pos) [
      | inl i ↦ i
      | inr not ↦ absurd (none (n - 2) (omega arith) (subst (λ t. HasInverse m t → ⊥) (let e : n ≡ n - 2 + 2 = omega arith in e) not))
    ]
