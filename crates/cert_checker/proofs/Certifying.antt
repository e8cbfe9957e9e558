-- A sum that is left of the words of a row, less those of a combination, has no words exactly where these are the same.
use Rattle.std.proofs.Common.{◌≡◌, ◌≢◌, ℕ, ◌+◌, ◌-◌, ◌*◌, ◌%◌, ◌<◌, Bool, true, List, [], ◌∷◌, length, refl, sym, ◌∙◌, ap, arith, mod-eq_of_lt}
use Rattle.std.specs.Prelude.{◌↔◌}
use Rattle.zeta_model.specs.declared.Letter.{Letter}
use Rattle.zeta_model.specs.Modular.{Same}
use Rattle.zeta_model.specs.Sums.{Sum, SameSum, difference}
use Rattle.zeta_model.proofs.ModularLemmas.{same-add_right, same-opposite}
use Rattle.word_sums.specs.Terms.{coefficient_of}
use Rattle.word_sums.specs.Sums.{IsSum}
use Rattle.word_sums.proofs.SumLemmas.{IsSum_below}
use Rattle.word_sums.proofs.KnownTerms.{held}

abbrev Word : Type 0
Word = List Letter

module _ (m : ℕ) (pos : 0 < m) where
  -- numbers whose difference vanishes are the same
  pub same-from_difference : (a b : ℕ) → Same m 0 (a + (m - 1) * b) → Same m a b
  same-from_difference a b none =
      sym (same-opposite m a b pos) ∙ ap (λ x. x % m) (let e : a + b + b * (m - 1) ≡ a + (m - 1) * b + b = omega arith in e)
      ∙ same-add_right m (a + (m - 1) * b) 0 b (sym none) ∙ ap (λ x. x % m) (let e : 0 + b ≡ b = omega arith in e)

  -- what is left where a begins at nothing and takes b away
  pub left-same : (x s a b : ℕ) → s ≡ 0 → (y : ℕ) → Same m y (s + a) → Same m x (y + (m - 1) * b) → Same m x (a + (m - 1) * b)
  left-same x s a b none y gained taken =
      taken ∙ same-add_right m y (s + a) ((m - 1) * b) gained ∙ ap (λ z. (z + a + (m - 1) * b) % m) none
      ∙ ap (λ z. z % m) (let e : 0 + a + (m - 1) * b ≡ a + (m - 1) * b = omega arith in e)

  pub difference-none : (a b : ℕ) → Same m a b → Same m (a + (m - 1) * b) 0
  difference-none a b same =
      same-add_right m a b ((m - 1) * b) same ∙ ap (λ x. x % m) (let e : b + (m - 1) * b ≡ 0 + b + b * (m - 1) = omega arith in e) ∙ same-opposite m 0 b pos

  module _ {E : Type 0} (nought : E) (has : E → Bool) (value : E → ℕ) (below : (a : E) → has a ≡ true → value a < m) (has_zero : has nought ≡ true)
      (value_zero : value nought ≡ 0) (value_injective : (a b : E) → has a ≡ true → has b ≡ true → value a ≡ value b → a ≡ b) where
    pub certified : (sum : List (Word × E)) (w c : Sum) → IsSum nought has sum → ((t : Word) → Same m (coefficient_of value sum t) (difference m w c t))
        → (length sum ≡ 0) ↔ SameSum m w c
    certified sum w c is left = (empty sum left, rest sum is left)
      where
        empty : (sum : List (Word × E)) → ((t : Word) → Same m (coefficient_of value sum t) (difference m w c t)) → length sum ≡ 0 → SameSum m w c
        empty [] left none t = same-from_difference (w t) (c t) (left t)
        empty (e ∷ es) left none t = absurd (omega arith)

        rest : (sum : List (Word × E)) → IsSum nought has sum → ((t : Word) → Same m (coefficient_of value sum t) (difference m w c t)) → SameSum m w c
            → length sum ≡ 0
        rest [] is left same = refl
        rest (e ∷ es) is left same =
            let some : coefficient_of value (e ∷ es) e.0 ≢ 0 =
            (held value nought has has_zero value_zero value_injective (e ∷ es) is.terms is.in_ring e.0).0 (0, omega arith, refl) in
            let none : coefficient_of value (e ∷ es) e.0 ≡ 0 =
            sym (mod-eq_of_lt (IsSum_below nought has value m (e ∷ es) pos below is e.0)) ∙ left e.0 ∙ difference-none (w e.0) (c e.0) (same e.0)
            ∙ mod-eq_of_lt pos in
            absurd (some none)
