-- The words of a product are covered and have the weights' sum.
use Rattle.std.proofs.Common.{◌≡◌, ℕ, ◌+◌, ◌≤◌, ◌<◌, Bool, true, false, List, length, cond, refl, sym, ap, ◌∙◌, arith}
use Rattle.std.proofs.lemmas.Bool.{cases_eq}
use mathlib.Core.Bool.{true≢false}
use mathlib.Core.Logic.{inl, inr}
use Rattle.zeta_model.specs.declared.Letter.{Letter}
use Rattle.zeta_model.specs.Product.{Alphabet, AlphabetLaws, prod}
use Rattle.zeta_model.specs.Sums.{same_word, single, sum_of}
use Rattle.zeta_model.proofs.Totals.{total-zero}
use Rattle.zeta_model.proofs.ProductTotals.{total_cong}
use Rattle.zeta_model.proofs.WordOrder.{same_word-one}

abbrev Word : Type 0
Word = List Letter

-- the sum of one word is zero at every other
pub single-other : (w t : Word) → (t ≡ w → ⊥) → single w t ≡ 0
single-other w t other = by (same_word t w) (same_word-one t w)
  where
    by : (b : Bool) → (b ≡ true → t ≡ w) → ◌≡◌ {A = ℕ} (cond b 1 0) 0
    by true one = absurd (other (one refl))
    by false one = refl

module _ (limit : ℕ) (L : Alphabet) (laws : AlphabetLaws limit L) where
  none_but : (u v t : Word) → L.covered u ≡ true → L.covered v ≡ true → length u + length v ≤ limit
      → ((w : Word) → L.covered w ≡ true → length w ≡ length u + length v → t ≡ w → ⊥) → sum_of (prod L u v) t ≡ 0
  none_but u v t cu cv h other = total_cong limit L laws (λ w. single w t) (λ w. 0) u v cu cv h (λ w c n. single-other w t (other w c n))
      ∙ total-zero (prod L u v)

  covers_uncovered : (u v t : Word) (b : Bool) → L.covered t ≡ b → L.covered u ≡ true → L.covered v ≡ true → length u + length v ≤ limit
      → 0 < sum_of (prod L u v) t → L.covered t ≡ true
  covers_uncovered u v t true e cu cv h p = e
  covers_uncovered u v t false e cu cv h p =
      let none : sum_of (prod L u v) t ≡ 0 = none_but u v t cu cv h (λ w c n same. true≢false (sym c ∙ ap L.covered (sym same) ∙ e)) in
      absurd (omega arith)

  pub prod-covered : (u v t : Word) → L.covered u ≡ true → L.covered v ≡ true → length u + length v ≤ limit → 0 < sum_of (prod L u v) t → L.covered t ≡ true
  prod-covered u v t cu cv h p = covers_uncovered u v t (L.covered t) refl cu cv h p

  pub length-prod : (u v t : Word) → L.covered u ≡ true → L.covered v ≡ true → length u + length v ≤ limit → 0 < sum_of (prod L u v) t
      → length t ≡ length u + length v
  length-prod u v t cu cv h p = elim (cases_eq (length t) (length u + length v)) as (λ x. length t ≡ length u + length v) [
    | inl e ↦ e
    | inr ne ↦
        let none : sum_of (prod L u v) t ≡ 0 = none_but u v t cu cv h (λ w c n same. ne (ap length same ∙ n)) in
        absurd (omega arith)
  ]
