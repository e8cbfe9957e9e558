-- Combinations of sums of words, and what lies in a span of sums.
use Rattle.std.specs.Prelude.{◌≡◌, ℕ, ◌+◌, ◌*◌, ◌%◌, ◌<◌, ◌≤◌, ◌⊎◌, suc, cond, eqb}
use Rattle.std.proofs.Common.{refl, sym, ◌∙◌, ap, inl, inr, arith}
use Rattle.std.proofs.lemmas.Bool.{cases_lt, eq-eqb, ne_eqb}
use Rattle.zeta_model.specs.Modular.{Same}
use Rattle.zeta_model.specs.Sums.{Sum, SameSum}
use Rattle.zeta_model.proofs.ModularLemmas.{same-add, same-mul_left, same-mul_right}
use Rattle.linear_model.specs.Rows.{total}
use Rattle.linear_model.proofs.Totals.{mul-total, total-mul, total-total, total_alike, same-total}
use Rattle.table_model.specs.MonomialWords.{sum_combination}
use Rattle.table_model.specs.ListedSpan.{InSumSpan}
use Rattle.linear_model.proofs.Combinations.{combination-add, combination-one}

-- a combination of combinations is a combination of the sums beneath
pub sum_combination-combination : (n k : ℕ) (c : ℕ → ℕ) (d : ℕ → ℕ → ℕ) (sums : ℕ → Sum)
    → (λ t. sum_combination n (λ i. sum_combination k sums (d i)) c t) ≡ sum_combination k sums (λ l. total n (λ i. c i * d i l))
sum_combination-combination n k c d sums = λ z t. at t z
  where
    at : (t : _) → sum_combination n (λ i. sum_combination k sums (d i)) c t ≡ sum_combination k sums (λ l. total n (λ i. c i * d i l)) t
    at t =
        total_alike n _ _ (λ i. mul-total k (c i) (λ l. d i l * sums l t))
        ∙ total-total n k (λ i l. c i * (d i l * sums l t))
        ∙ total_alike k _ _ (λ l. total_alike n _ _ (λ i. let e : c i * (d i l * sums l t) ≡ c i * d i l * sums l t = omega arith in e)
        ∙ sym (total-mul n (sums l t) (λ i. c i * d i l)))

pub sum_combination-add : (n : ℕ) (sums : ℕ → Sum) (c d : ℕ → ℕ) (t : _)
    → sum_combination n sums (λ i. c i + d i) t ≡ sum_combination n sums c t + sum_combination n sums d t
sum_combination-add n sums c d t = combination-add n (λ i j. sums i t) c d 0

pub sum_combination-scaled : (n : ℕ) (sums : ℕ → Sum) (f : ℕ) (c : ℕ → ℕ) (t : _) → sum_combination n sums (λ i. f * c i) t ≡ f * sum_combination n sums c t
sum_combination-scaled n sums f c t =
    total_alike n _ _ (λ i. let e : f * c i * sums i t ≡ f * (c i * sums i t) = omega arith in e) ∙ sym (mul-total n f (λ i. c i * sums i t))

module _ (m : ℕ) where
  -- coefficients and sums that agree modulo m give one sum
  pub same-sum_combination : (n : ℕ) (sums others : ℕ → Sum) (c d : ℕ → ℕ) → ((i : ℕ) → i < n → Same m (c i) (d i))
      → ((i : ℕ) → i < n → SameSum m (sums i) (others i)) → SameSum m (sum_combination n sums c) (sum_combination n others d)
  same-sum_combination n sums others c d h g t =
      same-total m n _ _ (λ i l. same-mul_right m (c i) (d i) (sums i t) (h i l) ∙ same-mul_left m (sums i t) (others i t) (d i) (g i l t))

  -- a sum of the list is in its span
  pub sum_in_span : (n : ℕ) (sums : ℕ → Sum) (i : ℕ) → i < n → InSumSpan m n sums (sums i)
  sum_in_span n sums i h = (λ k. cond (eqb k i) 1 0, λ t. sym (combination-one m n (λ j _. sums j t) i 1 0 h ∙ ap (λ x. x % m) (omega arith)))

  pub same_in_span : (n : ℕ) (sums : ℕ → Sum) (s r : Sum) → SameSum m s r → InSumSpan m n sums r → InSumSpan m n sums s
  same_in_span n sums s r e (c, is) = (c, λ t. e t ∙ is t)

  -- what lies in a span of one sum less lies in that of all
  pub span_more : (n : ℕ) (sums : ℕ → Sum) (s : Sum) → InSumSpan m n sums s → InSumSpan m (suc n) sums s
  span_more n sums s (c, is) = (
    λ i. cond (eqb i n) 0 (c i),
    λ t.
        is t
        ∙ same-total m n _ _ (λ i l. ap (λ b. (cond b 0 (c i) * sums i t) % m) (sym (ne_eqb i n (omega arith))))
        ∙ ap (λ x. x % m) (let e : total n (λ i. cond (eqb i n) 0 (c i) * sums i t)
        ≡ total n (λ i. cond (eqb i n) 0 (c i) * sums i t) + 0 * sums n t = omega arith in e)
        ∙ ap (λ b. (total n (λ i. cond (eqb i n) 0 (c i) * sums i t) + cond b 0 (c n) * sums n t) % m) (sym (eq-eqb n n refl)),
  )

  -- the coefficients of sum i, and zeros past the last sum
  coefficients_of : (n k : ℕ) (sums others : ℕ → Sum) (within : (i : ℕ) → i < n → InSumSpan m k others (sums i)) (i : ℕ) → (i < n) ⊎ (n ≤ i) → ℕ → ℕ
  coefficients_of n k sums others within i (inl h) = (within i h).0
  coefficients_of n k sums others within i (inr h) = λ _. 0

  from_others : (n k : ℕ) (sums others : ℕ → Sum) (within : (i : ℕ) → i < n → InSumSpan m k others (sums i)) (i : ℕ) → i < n → (q : (i < n) ⊎ (n ≤ i))
      → SameSum m (sums i) (sum_combination k others (coefficients_of n k sums others within i q))
  unfolding coefficients_of
  from_others n k sums others within i h (inl l) = (within i l).1
  from_others n k sums others within i h (inr l) = absurd (omega arith)

  -- a combination of sums of a span lies in the span
  pub sum_span_through : (n k : ℕ) (sums others : ℕ → Sum) → ((i : ℕ) → i < n → InSumSpan m k others (sums i)) → (s : Sum) → InSumSpan m n sums s
      → InSumSpan m k others s
  sum_span_through n k sums others within s (c, is) =
      let d : ℕ → ℕ → ℕ = λ i. coefficients_of n k sums others within i (cases_lt i n) in (
        λ l. total n (λ i. c i * d i l),
        λ t.
            is t
            ∙ same-sum_combination n sums (λ i. sum_combination k others (d i)) c c (λ i l. refl)
            (λ i l. from_others n k sums others within i l (cases_lt i n)) t
            ∙ ap (λ (f : Sum). f t % m) (sum_combination-combination n k c d others),
      )

  -- a sum of two multiples
  pub span_add : (n : ℕ) (sums : ℕ → Sum) (s r : Sum) (a b : ℕ) → InSumSpan m n sums s → InSumSpan m n sums r → InSumSpan m n sums (λ t. a * s t + b * r t)
  span_add n sums s r a b (c, is) (d, ir) = (
    λ i. a * c i + b * d i,
    λ t.
        same-add m (a * s t) (a * sum_combination n sums c t) (b * r t) (b * sum_combination n sums d t) (same-mul_left m (s t) _ a (is t))
        (same-mul_left m (r t) _ b (ir t))
        ∙ ap (λ x. x % m) (sym (sum_combination-add n sums (λ i. a * c i) (λ i. b * d i) t
        ∙ (λ z. sum_combination-scaled n sums a c t z + sum_combination-scaled n sums b d t z))),
  )
