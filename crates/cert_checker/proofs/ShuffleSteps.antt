-- Steps of `column_words`: one factor more.
use Rattle.std.proofs.Common.{◌≡◌, ℕ, zero, suc, ◌+◌, ◌%◌, ◌<◌, ◌≤◌, Bool, true, List, [], ◌∷◌, ◌++◌, length, take, slice_get, Some, refl}
use Rattle.std.proofs.Common.{sym, ◌∙◌, ap, subst, arith, length-append}
use Rattle.std.specs.Prelude.{All}
use Rattle.std.specs.List.{flat_map}
use Rattle.std.specs.Map.{keys_of}
use Rattle.std.proofs.lemmas.List.{take_more, take_all}
use Rattle.std.proofs.lemmas.Option.{get_or_from_slice_get}
use Rattle.zeta_model.specs.declared.Letter.{Letter}
use Rattle.zeta_model.specs.Alphabets.{shuffle_of}
use Rattle.zeta_model.specs.Sums.{single, sum_of, continued, numbered}
use Rattle.zeta_model.proofs.Totals.{total-flat_map}
use Rattle.word_sums.specs.Sums.{IsSumOf}
use Rattle.word_sums.proofs.SumLemmas.{words_of_sum}
use Rattle.lyndon_words.specs.Lyndon.{joined}
use Rattle.lyndon_words.specs.Monomials.{IsMonomial}
use Rattle.leading_word.specs.Shuffles.{shuffled_with, words_of}
use Rattle.leading_word.proofs.AdmissibleWords.{length-words_of}
use Rattle.relation_list.proofs.ValueLemmas.{continued_list}
use Rattle.table_model.specs.MonomialWords.{words_of_monomial}

abbrev Word : Type 0
Word = List Letter

shuffled_with-push : (ws us : List Word) (u : Word) → shuffled_with ws (us ++ u ∷ []) ≡ flat_map (λ w. shuffle_of w u) (shuffled_with ws us)
shuffled_with-push ws [] u = refl
shuffled_with-push ws (v ∷ us) u = shuffled_with-push (flat_map (λ w. shuffle_of w v) ws) us u

length-front : (p : List Word) (i : ℕ) (u : Word) → slice_get p i ≡ Some u → length (joined (take i p)) + length u ≤ length (joined p)
length-front [] i u e = cc
length-front (v ∷ p) zero u e = let same : v ≡ u = cc in omega (arith, length-append v (joined p), ap length same)
length-front (v ∷ p) (suc i) u e = omega (arith, length-append v (joined p), length-append v (joined (take i p)), length-front p i u e)

module _ {E : Type 0} (nought : E) (has : E → Bool) (value : E → ℕ) (m : ℕ) where
  pub no_factor : (p : List Word) (sum : List (Word × E)) → IsSumOf nought has value m (single []) sum
      → IsSumOf nought has value m (words_of_monomial (take 0 p)) sum
  unfolding words_of_monomial
  no_factor p sum is = record {
    terms = is.terms;
    in_ring = is.in_ring;
    coefficients =
        λ t. is.coefficients t ∙ ap (λ x. x % m) (let e : single [] t ≡ single [] t + 0 = omega arith in e);
  }

  pub one_factor_more : (p : List Word) (i : ℕ) (u : Word) (sum new : List (Word × E)) → 0 < m → i < length p → slice_get p i ≡ Some u
      → IsSumOf nought has value m (words_of_monomial (take i p)) sum
      → IsSumOf nought has value m (continued (λ w. sum_of (shuffle_of w u)) (numbered value sum)) new
      → IsSumOf nought has value m (words_of_monomial (take (i + 1) p)) new
  unfolding words_of_monomial
  one_factor_more p i u sum new pos l at is made = record {
    terms = made.terms;
    in_ring = made.in_ring;
    coefficients = λ t.
        made.coefficients t
        ∙ continued_list m value sum (words_of (take i p)) pos is.coefficients (λ w. sum_of (shuffle_of w u)) t
        ∙ ap (λ x. x % m) (sym (total-flat_map (λ w. single w t) (λ w. shuffle_of w u) (words_of (take i p))))
        ∙ ap (λ ws. sum_of ws t % m) (sym (shuffled_with-push ([] ∷ []) (take i p) u))
        ∙ ap (λ us. sum_of (words_of us) t % m) (sym longer);
  }
    where
      longer : take (i + 1) p ≡ take i p ++ u ∷ []
      longer = take_more p i [] l ∙ ap (λ v. take i p ++ v ∷ []) (get_or_from_slice_get p i u [] at)

  pub factor_fits : (p : List Word) (i : ℕ) (u : Word) (sum : List (Word × E)) → has nought ≡ true → value nought ≡ 0
      → ((a b : E) → has a ≡ true → has b ≡ true → value a ≡ value b → a ≡ b)
      → IsMonomial p → slice_get p i ≡ Some u → IsSumOf nought has value m (words_of_monomial (take i p)) sum
      → All (λ w. length w + length u ≤ 24) (keys_of sum)
  unfolding words_of_monomial
  factor_fits p i u sum has_nought value_nought injective monomial at is =
      words_of_sum nought has value m (λ w. length w + length u ≤ 24) (words_of_monomial (take i p)) sum has_nought value_nought injective is
      (λ t some. omega (arith, length-words_of (take i p) t some, length-front p i u at, monomial.within))

  pub all_factors : (p : List Word) (i : ℕ) (sum : List (Word × E)) → length p ≤ i → IsSumOf nought has value m (words_of_monomial (take i p)) sum
      → IsSumOf nought has value m (words_of_monomial p) sum
  all_factors p i sum l is = subst (λ us. IsSumOf nought has value m (words_of_monomial us) sum) (take_all i p l) is
