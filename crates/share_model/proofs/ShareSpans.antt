-- Combinations of listed relations with numbers of a share alone are in the span of the share's values.
use Rattle.std.specs.Prelude.{◌≡◌, ◌⊎◌, ℕ, ◌+◌, ◌*◌, ◌/◌, ◌%◌, ◌<◌, ◌≢◌}
use Rattle.std.proofs.Common.{refl, sym, ◌∙◌, ap, subst, inl, inr, arith}
use Rattle.std.proofs.lemmas.Bool.{cases_eq}
use Rattle.zeta_model.specs.Modular.{Same}
use Rattle.zeta_model.specs.Sums.{Sum, zero_sum}
use Rattle.linear_model.proofs.Totals.{same-total, total_vanishes}
use Rattle.column_order.specs.Columns.{ColumnList}
use Rattle.table_model.specs.MonomialWords.{words_of_row}
use Rattle.table_model.specs.ListedSpan.{values_of, count_of, InSumSpan}
use Rattle.table_model.proofs.SumSpans.{sum_in_span, sum_span_through}
use Rattle.share_model.specs.Dealing.{InShare, share_values, share_size, IsWithinShare, IsRowOfShare}
use Rattle.share_model.proofs.Numbers.{member, below_size}

module _ (m : ℕ) (columns : ColumnList) (index shares : ℕ) (inside : index < shares) where
  abbrev InShareSpan : Sum → Type 0
  InShareSpan = InSumSpan m (share_size columns index shares) (share_values m columns index shares)

  -- the value of a relation of the share is in its span
  pub value_in_span : (n : ℕ) → n < count_of columns → InShare index shares n → InShareSpan (values_of m columns n)
  value_in_span n l e =
      let is : n ≡ index + shares * (n / shares) = member index shares n inside e in
      let k : n / shares < share_size columns index shares =
      below_size (count_of columns) index shares (n / shares) inside (subst (λ x. x < count_of columns) is l) in
      subst (λ x. InShareSpan (values_of m columns x)) (sym is)
      (sum_in_span m (share_size columns index shares) (share_values m columns index shares) (n / shares) k)

  -- the values of the relations of the share, and zero in place of all others
  kept : (n : ℕ) → (n % shares ≡ index) ⊎ (n % shares ≢ index) → Sum
  kept n (inl e) = values_of m columns n
  kept n (inr e) = zero_sum

  kept_in_span : (n : ℕ) → n < count_of columns → (q : (n % shares ≡ index) ⊎ (n % shares ≢ index)) → InShareSpan (kept n q)
  unfolding kept
  kept_in_span n l (inl e) = value_in_span n l e
  kept_in_span n l (inr e) = (
    λ _. 0,
    λ t. sym (total_vanishes m (share_size columns index shares) (λ i. 0 * share_values m columns index shares i t) (λ i li. ap (λ x. x % m) (omega arith))),
  )

  kept_term : (combination : ℕ → ℕ) → IsWithinShare index shares combination → (t : _) (n : ℕ) → (q : (n % shares ≡ index) ⊎ (n % shares ≢ index))
      → Same m (combination n * values_of m columns n t) (combination n * kept n q t)
  unfolding kept
  kept_term c within t n (inl e) = refl
  kept_term c within t n (inr e) = ap (λ x. (x * values_of m columns n t) % m) (within n e) ∙ ap (λ x. x % m) (omega arith)

  -- what a combination with numbers of the share gives is in the share's span
  pub row_in_span : (row combination : ℕ → ℕ) → IsRowOfShare m columns index shares row combination → InShareSpan (words_of_row columns.list row)
  row_in_span row c is =
      let sums : ℕ → Sum = λ n. kept n (cases_eq (n % shares) index) in
      sum_span_through m (count_of columns) (share_size columns index shares) sums (share_values m columns index shares)
      (λ n l. kept_in_span n l (cases_eq (n % shares) index)) (words_of_row columns.list row) (
        c,
        λ t. is.evaluates t ∙ same-total m (count_of columns) _ _ (λ n l. kept_term c is.within t n (cases_eq (n % shares) index)),
      )
