-- The span of all rows that were offered, and reduced lists of one span.
use Rattle.std.proofs.Common.{◌≡◌, ◌≢◌, ℕ, suc, ◌+◌, ◌<◌, ◌≤◌, List, [], ◌∷◌, ◌++◌, length, get_or, Bool, true, inl, inr, refl, sym, ◌∙◌, ap, subst}
use Rattle.std.proofs.Common.{arith, mod-eq_of_lt}
use Rattle.std.proofs.lemmas.Bool.{cases_eq, cases_lt}
use Rattle.std.proofs.lemmas.List.{get_or_append_left}
use Rattle.std.proofs.Math.Seq.{get_or-append_seam}
use Rattle.linear_model.specs.Rows.{InSpan, SpanWithin, SameSpan, rows_and}
use Rattle.linear_model.proofs.Spans.{row_in_span, span_through}
use Rattle.linear_model.proofs.ReducedPairs.{counts_agree, rows_agree}
use Rattle.sparse_rows.proofs.EntryLemmas.{entry_of_below}
use Rattle.sparse_rows.proofs.SameRows.{same_row}
use Rattle.echelon.specs.Lists.{entries_of, row_at, lead_at}
use Rattle.echelon.specs.States.{IsRowList}
use Rattle.echelon.specs.Offers.{TakesIn}
use Rattle.echelon.specs.Finishes.{SameSpanOf}
use Rattle.echelon.proofs.RowLists.{length-push}
use Rattle.linear_model.proofs.SpanSteps.{rows_and-last, rows_and-before}

module _ {E : Type 0} (m : ℕ) (value : E → ℕ) where
  -- the rows and one more, as a list and as a function
  pub rows_and-append : (rows : List (List (ℕ × E))) (row : List (ℕ × E)) (i : ℕ) → i < length rows + 1
      → rows_and (length rows) (row_at value rows) (entries_of value row) i ≡ row_at value (rows ++ row ∷ []) i
  rows_and-append rows row i l = elim (cases_lt i (length rows)) [
    | inl less ↦ let ne : i ≢ length rows = omega arith in
        rows_and-before m (length rows) (row_at value rows) (entries_of value row) i ne
        ∙ ap (entries_of value) (sym (get_or_append_left rows (row ∷ []) [] i less))
    | inr late ↦
        let same : i ≡ length rows = omega arith in
        ap (rows_and (length rows) (row_at value rows) (entries_of value row)) same
        ∙ rows_and-last m (length rows) (row_at value rows) (entries_of value row)
        ∙ ap (entries_of value) (sym (get_or-append_seam rows row [] [])) ∙ ap (row_at value (rows ++ row ∷ [])) (sym same)
  ]

  -- lists that agree row by row have one span
  spans_alike : (n : ℕ) (rows others : ℕ → ℕ → ℕ) → ((i : ℕ) → i < n → rows i ≡ others i) → SpanWithin m n rows n others
  spans_alike n rows others same i h = subst (InSpan m n others) (sym (same i h)) (row_in_span m n others i h)

  pub takes_in_restored : (kept : List (List (ℕ × E))) (row : List (ℕ × E)) → TakesIn m value kept (entries_of value row) (kept ++ row ∷ [])
  takes_in_restored kept row =
      subst (λ n. SameSpan m (length kept + 1) (rows_and (length kept) (row_at value kept) (entries_of value row)) n (row_at value (kept ++ row ∷ [])))
      (sym (length-push kept row)) (
        spans_alike (length kept + 1) _ _ (rows_and-append kept row),
        spans_alike (length kept + 1) _ _ (λ i h. sym (rows_and-append kept row i h)),
      )

  abbrev both : List (List (ℕ × E)) → List (ℕ × E) → ℕ → ℕ → ℕ
  both rows row = rows_and (length rows) (row_at value rows) (entries_of value row)

  before_both : (rows : List (List (ℕ × E))) (row : List (ℕ × E)) → SpanWithin m (length rows) (row_at value rows) (length rows + 1) (both rows row)
  before_both rows row l h = let ne : l ≢ length rows = omega arith in
      subst (InSpan m (length rows + 1) (both rows row)) (rows_and-before m (length rows) (row_at value rows) (entries_of value row) l ne)
      (row_in_span m (length rows + 1) (both rows row) l (omega arith))

  last_both : (rows : List (List (ℕ × E))) (row : List (ℕ × E)) → InSpan m (length rows + 1) (both rows row) (entries_of value row)
  last_both rows row = subst (InSpan m (length rows + 1) (both rows row)) (rows_and-last m (length rows) (row_at value rows) (entries_of value row))
      (row_in_span m (length rows + 1) (both rows row) (length rows) (omega arith))

  -- where one list lies in the span of another, so it does with the same row behind both
  within_both : (rows others : List (List (ℕ × E))) (row : List (ℕ × E))
      → SpanWithin m (length rows) (row_at value rows) (length others) (row_at value others)
      → SpanWithin m (length rows + 1) (both rows row) (length others + 1) (both others row)
  within_both rows others row within i h = elim (cases_eq i (length rows)) [
    | inl e ↦ subst (InSpan m (length others + 1) (both others row))
        (sym (ap (both rows row) e ∙ rows_and-last m (length rows) (row_at value rows) (entries_of value row))) (last_both others row)
    | inr ne ↦ subst (InSpan m (length others + 1) (both others row))
        (sym (rows_and-before m (length rows) (row_at value rows) (entries_of value row) i ne))
        (span_through m (length others) (length others + 1) (row_at value others) (both others row) (before_both others row) (row_at value rows i)
        (within i (omega arith)))
  ]

  pub span_of_next : (offered kept new : List (List (ℕ × E))) (row : List (ℕ × E)) → SameSpanOf m value offered kept
      → TakesIn m value kept (entries_of value row) new → SameSpanOf m value (offered ++ row ∷ []) new
  span_of_next offered kept new row spans taken =
      subst (λ n. SameSpan m n (row_at value (offered ++ row ∷ [])) (length new) (row_at value new)) (sym (length-push offered row)) (
        λ i h. span_through m (length kept + 1) (length new) (both kept row) (row_at value new) taken.0 _
            (subst (InSpan m (length kept + 1) (both kept row)) (rows_and-append offered row i h) (within_both offered kept row spans.0 i h)),
        λ i h. span_through m (length offered + 1) (length offered + 1) (both offered row) (row_at value (offered ++ row ∷ []))
            (spans_alike (length offered + 1) _ _ (rows_and-append offered row)) _
            (span_through m (length kept + 1) (length offered + 1) (both kept row) (both offered row) (within_both kept offered row spans.1) _
            (taken.1 i h)),
      )

module _ {E : Type 0} (m : ℕ) (has : E → Bool) (value : E → ℕ) (zero : E) (has_zero : has zero ≡ true) (value_zero : value zero ≡ 0)
    (value_injective : (a b : E) → has a ≡ true → has b ≡ true → value a ≡ value b → a ≡ b) (value_below : (a : E) → has a ≡ true
    → value a < m) (from : 3 ≤ m) where
  -- lists of one length that agree at each place are equal
  same_list : {A : Type 0} (d : A) (xs ys : List A) → length xs ≡ length ys → ((i : ℕ) → i < length xs → get_or xs i d ≡ get_or ys i d) → xs ≡ ys
  same_list d [] [] e h = refl
  same_list d [] (y ∷ ys) e h = absurd (omega arith)
  same_list d (x ∷ xs) [] e h = absurd (omega arith)
  same_list d (x ∷ xs) (y ∷ ys) e h =
      let first : x ≡ y = h 0 (omega arith) in
      let rest : xs ≡ ys = same_list d xs ys (omega arith) (λ i l. h (suc i) (omega arith)) in
      λ i. first i ∷ rest i

  pub same_reduced : (columns others_columns : ℕ) (rows others : List (List (ℕ × E))) → IsRowList m has value zero columns rows
      → IsRowList m has value zero others_columns others → SameSpanOf m value rows others → rows ≡ others
  same_reduced columns others_columns rows others list other_list spans =
      same_list [] rows others count (λ i h.
      let other_h : i < length others = omega (arith, count) in
      same_row (λ k. k) (λ a b e. e) zero has value m has_zero value_zero value_injective 0 (get_or rows i []) (get_or others i []) (list.fit i h).is_row
      (other_list.fit i other_h).is_row (list.fit i h).in_ring (other_list.fit i other_h).in_ring
      (λ q.
      sym (mod-eq_of_lt (entry_of_below (λ k. k) zero has value m 0 q (get_or rows i []) pos value_below (list.fit i h).is_row (list.fit i h).in_ring))
      ∙ rows_agree m (length rows) (length others) (lead_at rows) (lead_at others) (row_at value rows)
      (row_at value others) big list.reduced other_list.reduced spans i h q
      ∙ mod-eq_of_lt (entry_of_below (λ k. k) zero has value m 0 q (get_or others i []) pos value_below (other_list.fit i other_h).is_row
      (other_list.fit i other_h).in_ring)))
    where
      big : 1 < m
      big = omega arith

      pos : 0 < m
      pos = omega arith

      count : length rows ≡ length others
      count = counts_agree m (length rows) (length others) (lead_at rows) (lead_at others) (row_at value rows)
          (row_at value others) big list.reduced other_list.reduced spans
