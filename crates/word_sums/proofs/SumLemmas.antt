-- Sums of a ring: sums without words, coefficients, and the words of a sum that is known.
use Rattle.std.proofs.Common.{◌≡◌, ◌≢◌, ℕ, zero, suc, ◌+◌, ◌%◌, ◌<◌, Bool, true, List, [], Contains, refl, sym, ap, subst, ◌∙◌, arith}
use Rattle.std.specs.Prelude.{All}
use Rattle.std.specs.List.Sorted.{IsStrictlySortedBy}
use Rattle.std.specs.Map.{keys_of}
use Rattle.std.proofs.lemmas.List.Elements.{All-nil, All-weaker, All-contains_itself}
use Rattle.std.proofs.lemmas.Map.Keys.{IsDistinct-from_sorted, sorted_from_all_adjacent}
use Rattle.std.proofs.Math.Nat.{zero-mod}
use Rattle.word_letters.specs.Order.{word_cmp_total}
use Rattle.zeta_model.specs.declared.Letter.{Letter}
use Rattle.zeta_model.specs.Sums.{Sum}
use Rattle.zeta_model.specs.Words.{word_cmp}
use Rattle.word_sums.specs.Terms.{coefficient_of, IsTerms}
use Rattle.word_sums.specs.Sums.{Gains, IsSum, IsSumOf}
use Rattle.word_sums.proofs.TermLemmas.{coefficient_of_below}
use Rattle.word_sums.proofs.KnownTerms.{held}

abbrev Word : Type 0
Word = List Letter

module _ {E : Type 0} (nought : E) (has : E → Bool) where
  -- no words are a sum
  pub IsSum-none : (sum : List (Word × E)) → sum ≡ [] → IsSum nought has sum
  IsSum-none sum is =
      let in_order : IsStrictlySortedBy word_cmp [] = sorted_from_all_adjacent word_cmp_total [] [] (λ k h. absurd (omega (arith, h))) in
      let none : IsTerms nought [] = record { once = IsDistinct-from_sorted word_cmp [] in_order; nonzero = All-nil (λ a. a ≢ nought) } in
      subst (IsSum nought has) (sym is) (record { terms = none; in_ring = All-nil (λ a. has a ≡ true) })

  module _ (value : E → ℕ) (m : ℕ) where
    -- the coefficients are residues
    pub IsSum_below : (sum : List (Word × E)) → 0 < m → ((a : E) → has a ≡ true → value a < m) → IsSum nought has sum → (t : Word)
        → coefficient_of value sum t < m
    IsSum_below sum pos below is t = coefficient_of_below value has m sum t pos below is.terms.once is.in_ring

    -- what a sum without words gains is all that it has
    pub IsSumOf-gained : (before after : List (Word × E)) (s : Sum) → before ≡ [] → IsSum nought has after
        → Gains m (coefficient_of value before) (coefficient_of value after) s → IsSumOf nought has value m s after
    IsSumOf-gained before after s none is gains = record {
      terms = is.terms;
      in_ring = is.in_ring;
      coefficients = λ t.
          let whole : 0 + s t ≡ s t = omega arith in
          gains.each t ∙ (λ i. (coefficient_of value (none i) t + s t) % m) ∙ ap (λ n. n % m) whole;
    }

    -- a word of the sum has a number that is not zero, so what holds of the words with such numbers holds of it
    pub words_of_sum : (P : Word → Type 0) (s : Sum) (sum : List (Word × E)) → has nought ≡ true → value nought ≡ 0
        → ((a b : E) → has a ≡ true → has b ≡ true → value a ≡ value b → a ≡ b)
        → IsSumOf nought has value m s sum → ((t : Word) → 0 < s t → P t) → All P (keys_of sum)
    words_of_sum P s sum has_nought value_nought injective is each =
        All-weaker (Contains (keys_of sum)) P
        (λ w stands. by w (s w) refl ((held value nought has has_nought value_nought injective sum is.terms is.in_ring w).0 stands))
        (keys_of sum) (All-contains_itself (keys_of sum))
      where
        by : (w : Word) (n : ℕ) → s w ≡ n → coefficient_of value sum w ≢ 0 → P w
        by w zero none some = absurd (some (is.coefficients w ∙ ap (λ n. n % m) none ∙ zero-mod m))
        by w (suc n) more some = each w (omega arith)
