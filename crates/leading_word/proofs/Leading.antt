-- The leading word of a shuffle of Lyndon factors, in the words of contracts.
use Rattle.std.proofs.Common.{◌≡◌, ℕ, zero, suc, ◌<◌, ◌≤◌, List, [], ◌∷◌, length, refl, sym, ap, subst, ◌∙◌, arith, length-append}
use Rattle.zeta_model.specs.declared.Letter.{Letter}
use Rattle.zeta_model.specs.Sums.{sum_of}
use Rattle.lyndon_words.specs.Lyndon.{IsBefore, AllLyndon, IsFactors, joined}
use Rattle.lyndon_words.specs.Monomials.{IsMonomial}
use Rattle.lyndon_words.proofs.WordLess.{precedes}
use Rattle.leading_word.specs.Shuffles.{words_of, factorials_of}
use Rattle.zeta_model.specs.Inverses.{HasInverse}
use Rattle.leading_word.proofs.AtMosts.{AtMost, not_both}
use Rattle.leading_word.proofs.OneFactorMore.{IsGreatest}
use Rattle.leading_word.proofs.GreatestWords.{greatest-words_of}
use Rattle.leading_word.proofs.Inverses.{inverse-within_weight, no_inverse-within_weight}

abbrev Word : Type 0
Word = List Letter

none_unless : (n : ℕ) → (0 < n → ⊥) → n ≡ 0
none_unless zero h = refl
none_unless (suc n) h = absurd (h (omega arith))

module _ (u : Word) (us : List Word) (f : IsFactors u us) where
  g : IsGreatest (words_of us) (joined us) (factorials_of us)
  g = greatest-words_of us f.lyndon f.falls

  pub none_greater : (v : Word) → IsBefore u v → sum_of (words_of us) v ≡ 0
  none_greater v b = none_unless (sum_of (words_of us) v) (λ h. not_both u v (precedes u v b) (subst (AtMost v) f.whole (g.most v h)))

  pub places-leading : sum_of (words_of us) u ≡ factorials_of us
  places-leading = ap (sum_of (words_of us)) (sym f.whole) ∙ g.count

pub inverse-leading : (m : ℕ) (u : Word) (us : List Word) → IsFactors u us → ((n : ℕ) → 2 ≤ n → n ≤ length u → HasInverse m n)
    → HasInverse m (sum_of (words_of us) u)
inverse-leading m u us f h = subst (HasInverse m) (sym (places-leading u us f)) (inverse-within_weight m u us f h)

pub no_inverse-leading : (m : ℕ) (u : Word) (us : List Word) → 0 < m → IsFactors u us → ¬ (HasInverse m (sum_of (words_of us) u))
    → (n : ℕ) × (2 ≤ n) × (n ≤ length u) × ¬ (HasInverse m n)
no_inverse-leading m u us pos f none = no_inverse-within_weight m u us pos f (λ i. none (subst (HasInverse m) (sym (places-leading u us f)) i))

-- a monomial is the factors of its word
pub monomial-factors : (p : List Word) → IsMonomial p → IsFactors (joined p) p
monomial-factors p m = record { lyndon = m.lyndon; falls = m.falls; whole = refl }

pub joined-some : (p : List Word) → AllLyndon p → 0 < length p → 0 < length (joined p)
joined-some [] al h = absurd (omega arith)
joined-some (u ∷ p) al h = omega (arith, length-append u (joined p), al.0.nonempty)
