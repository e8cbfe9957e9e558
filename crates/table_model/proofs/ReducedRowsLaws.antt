-- The reduced rows of the first n sums: there is one list, and it grows by the forward row.
use Rattle.std.specs.Prelude.{◌≡◌, ℕ, suc, ◌+◌, ◌-◌, ◌*◌, ◌%◌, ◌<◌, ◌↔◌, List, length}
use Rattle.std.proofs.Common.{refl, sym, ◌∙◌, ap, subst, inl, inr, arith}
use Rattle.std.proofs.lemmas.Bool.{cases_eq}
use Rattle.zeta_model.specs.declared.Letter.{Letter}
use Rattle.zeta_model.specs.Modular.{Same}
use Rattle.zeta_model.specs.Sums.{Sum}
use Rattle.zeta_model.proofs.ModularLemmas.{same-add, same-add_left, same-add_right, same-mul_left, same-mul_right, same-opposite}
use Rattle.linear_model.specs.Rows.{combination, SameRow, InSpan, SameSpan}
use Rattle.linear_model.specs.Reduced.{IsNormalForm}
use Rattle.linear_model.proofs.Spans.{row_in_span, span_through}
use Rattle.linear_model.proofs.ForwardLists.{reduced_is_forward, normal_form_unique, in_span_iff}
use Rattle.linear_model.proofs.Sweeps.{normal_form_exists}
use Rattle.linear_model.proofs.ReducedPairs.{counts_agree, leads_agree, rows_agree}
use Rattle.column_order.specs.Columns.{ColumnList}
use Rattle.table_model.specs.MonomialWords.{column_at, words_of_monomial, words_of_row}
use Rattle.table_model.specs.Conversion.{IsTable, IsTableSum, Converts, IsOver}
use Rattle.table_model.specs.ListedSpan.{InSumSpan}
use Rattle.table_model.specs.ReducedRows.{IsReducedRows, IsRest, IsForwardRow}
use Rattle.table_model.proofs.SumSpans.{same_in_span, sum_in_span, span_more, span_add, sum_span_through, sum_combination-add, sum_combination-scaled}
use Rattle.linear_model.proofs.RowSpans.{same_in_row_span, row_span_add}
use Rattle.table_model.proofs.RowWords.{same-words_of_row, words_of_row-combination, combination-over, cols_unique}
use Rattle.linear_model.proofs.NormalForms.{other_normal_form}
use Rattle.table_model.proofs.SumRows.{row_of, row_of-is, span_of_rows}
use Rattle.linear_model.proofs.Inserting.{new_lead, new_rows, new_reduced, new_row_in_span, old_row_in_span, new_rows_cases}

module _ (m : ℕ) (columns : ColumnList) (table : IsTable m columns) (sums : ℕ → Sum) where
  big : 1 < m
  big = omega (arith, table.modulus)

  pos : 0 < m
  pos = omega (arith, table.modulus)

  -- the words of the row are in the span of the first n sums
  abbrev Listed : ℕ → (ℕ → ℕ) → Type 0
  Listed n p = InSumSpan m n sums (words_of_row columns.list p)

  same_listed : (n : ℕ) (p q : ℕ → ℕ) → SameRow m p q → Listed n q → Listed n p
  same_listed n p q e h = same_in_span m n sums _ _ (same-words_of_row m columns p q e) h

  words_of_two : (p q : ℕ → ℕ) (a b : ℕ) (t : List Letter)
      → words_of_row columns.list (λ col. a * p col + b * q col) t ≡ a * words_of_row columns.list p t + b * words_of_row columns.list q t
  words_of_two p q a b t =
      let ms : ℕ → Sum = λ col. words_of_monomial (column_at columns.list col) in
      sum_combination-add (length columns.list) ms (λ col. a * p col) (λ col. b * q col) t
      ∙ (λ z. sum_combination-scaled (length columns.list) ms a p t z + sum_combination-scaled (length columns.list) ms b q t z)

  listed_add : (n : ℕ) (p q : ℕ → ℕ) (a b : ℕ) → Listed n p → Listed n q → Listed n (λ col. a * p col + b * q col)
  listed_add n p q a b hp hq = same_in_span m n sums _ _ (λ t. ap (λ x. x % m) (words_of_two p q a b t))
      (span_add m n sums (words_of_row columns.list p) (words_of_row columns.list q) a b hp hq)

  listed_more : (n : ℕ) (p : ℕ → ℕ) → Listed n p → Listed (suc n) p
  listed_more n p h = span_more m n sums (words_of_row columns.list p) h

  -- rows with listed words have combinations with listed words
  listed_span : (n count : ℕ) (rows : ℕ → ℕ → ℕ) → ((i : ℕ) → i < count → Listed n (rows i)) → (p : ℕ → ℕ) → InSpan m count rows p → Listed n p
  listed_span n count rows each p (c, is) =
      sum_span_through m count n (λ i. words_of_row columns.list (rows i)) sums each (words_of_row columns.list p) (
        c,
        λ t. same-words_of_row m columns p (combination count rows c) is t
            ∙ ap (λ (f : Sum). f t % m) (words_of_row-combination columns.list count rows c),
      )

  -- two lists for one n have one span
  pub one_span : (n count k : ℕ) (lead other_lead : ℕ → ℕ) (rows others : ℕ → ℕ → ℕ) → IsReducedRows m columns sums n count lead rows
      → IsReducedRows m columns sums n k other_lead others → SameSpan m count rows k others
  one_span n count k lead other_lead rows others h g = (
    λ i l. (g.whole (rows i) (h.over i l)).1 ((h.whole (rows i) (h.over i l)).0 (row_in_span m count rows i l)),
    λ i l. (h.whole (others i) (g.over i l)).1 ((g.whole (others i) (g.over i l)).0 (row_in_span m k others i l)),
  )

  pub reduced_rows_counts : (n count k : ℕ) (lead other_lead : ℕ → ℕ) (rows others : ℕ → ℕ → ℕ) → IsReducedRows m columns sums n count lead rows
      → IsReducedRows m columns sums n k other_lead others → count ≡ k
  reduced_rows_counts n count k lead other_lead rows others h g =
      counts_agree m count k lead other_lead rows others big h.reduced g.reduced (one_span n count k lead other_lead rows others h g)

  pub reduced_rows_leads : (n count k : ℕ) (lead other_lead : ℕ → ℕ) (rows others : ℕ → ℕ → ℕ) → IsReducedRows m columns sums n count lead rows
      → IsReducedRows m columns sums n k other_lead others → (i : ℕ) → i < count → lead i ≡ other_lead i
  reduced_rows_leads n count k lead other_lead rows others h g =
      leads_agree m count k lead other_lead rows others big h.reduced g.reduced (one_span n count k lead other_lead rows others h g)

  pub reduced_rows_rows : (n count k : ℕ) (lead other_lead : ℕ → ℕ) (rows others : ℕ → ℕ → ℕ) → IsReducedRows m columns sums n count lead rows
      → IsReducedRows m columns sums n k other_lead others → (i : ℕ) → i < count → SameRow m (rows i) (others i)
  reduced_rows_rows n count k lead other_lead rows others h g =
      rows_agree m count k lead other_lead rows others big h.reduced g.reduced (one_span n count k lead other_lead rows others h g)

  -- the rest lies over the columns
  pub rest_over : (n : ℕ) (q : ℕ → ℕ) → IsRest m columns sums n q → IsOver m columns q
  rest_over n q r col past =
      let e = r.earlier in let v = r.value in
      ap (λ x. x % m) (let t : q col ≡ q col + 0 = omega arith in t)
      ∙ same-add_left m 0 (combination r.count r.rows r.left.coefficients col) (q col)
      (sym (combination-over m columns r.count r.rows r.left.coefficients e.over col past))
      ∙ sym (r.left.differs col) ∙ v.over col past

  -- it is zero exactly where the value is in the span of the earlier ones
  pub rest_zero : (n : ℕ) (q : ℕ → ℕ) → IsRest m columns sums n q → SameRow m q (λ _. 0) ↔ InSumSpan m n sums (sums n)
  rest_zero n q r =
      let e = r.earlier in let v = r.value in
      let both = in_span_iff m r.count r.lead r.rows pos (reduced_is_forward m r.count r.lead r.rows e.reduced) r.cols q r.left in (
        λ z. same_in_span m n sums (sums n) (words_of_row columns.list r.cols) (λ t. sym (v.words t)) ((e.whole r.cols v.over).0 (both.1 z)),
        λ h. both.0 ((e.whole r.cols v.over).1 (same_in_span m n sums (words_of_row columns.list r.cols) (sums n) v.words h)),
      )

  -- where the value of n is in the span of the earlier ones, nothing is added
  pub nothing_added : (n count : ℕ) (lead : ℕ → ℕ) (rows : ℕ → ℕ → ℕ) → IsReducedRows m columns sums n count lead rows → InSumSpan m n sums (sums n)
      → IsReducedRows m columns sums (suc n) count lead rows
  nothing_added n count lead rows h v = record {
    reduced = h.reduced;
    over = h.over;
    whole = λ p over. (
      λ s. listed_more n p ((h.whole p over).0 s),
      λ s. (h.whole p over).1 (sum_span_through m (suc n) n sums sums (λ i l. elim (cases_eq i n) [
        | inl e ↦ subst (λ x. InSumSpan m n sums (sums x)) (sym e) v
        | inr ne ↦ sum_in_span m n sums i (omega arith)
      ]) (words_of_row columns.list p) s),
    );
  }

  module _ (within : (k : ℕ) → IsTableSum m columns (sums k)) (converts : Converts m columns) where
    -- before the first relation there is no row
    pub no_rows : (lead : ℕ → ℕ) (rows : ℕ → ℕ → ℕ) → IsReducedRows m columns sums 0 0 lead rows
    no_rows lead rows = record {
      reduced = record {
        one = λ i l. absurd (omega arith);
        before = λ i j l h. absurd (omega arith);
        rising = λ i k h l. absurd (omega arith);
        clear =
            λ i k l h ne. absurd (omega arith);
      };
      over = λ i l. absurd (omega arith);
      whole = λ p over. span_of_rows m columns table sums within converts 0 p over;
    }

    -- the rest by any list that R(n) may be
    pub rest_is : (n count : ℕ) (lead : ℕ → ℕ) (rows : ℕ → ℕ → ℕ) (q : ℕ → ℕ) → IsReducedRows m columns sums n count lead rows → IsRest m columns sums n q
        → IsNormalForm m count lead rows (row_of m columns table sums within converts n) q
    rest_is n count lead rows q h r =
        let e = r.earlier in
        let same : SameRow m (row_of m columns table sums within converts n) r.cols =
        cols_unique m columns table converts (sums n) (row_of m columns table sums within converts n) r.cols
        (row_of-is m columns table sums within converts n) r.value in
        let left : IsNormalForm m count lead rows r.cols q =
        other_normal_form m r.count count r.lead lead r.rows rows big e.reduced h.reduced
        (one_span n r.count count r.lead lead r.rows rows e h) r.cols q r.left in
        record { zero_at_leads = left.zero_at_leads; coefficients = left.coefficients; differs = λ col. same col ∙ left.differs col }

    pub rest_exists : (n count : ℕ) (lead : ℕ → ℕ) (rows : ℕ → ℕ → ℕ) → IsReducedRows m columns sums n count lead rows
        → (q : ℕ → ℕ) × IsRest m columns sums n q
    rest_exists n count lead rows h =
        let (q, left) = normal_form_exists m lead rows count (row_of m columns table sums within converts n) pos
        (reduced_is_forward m count lead rows h.reduced) in (
          q,
          record {
            count = count;
            lead = lead;
            rows = rows;
            cols = row_of m columns table sums within converts n;
            earlier = h;
            value =
                row_of-is m columns table sums within converts n;
            left = left;
          },
        )

    pub rest_unique : (n : ℕ) (q r : ℕ → ℕ) → IsRest m columns sums n q → IsRest m columns sums n r → SameRow m q r
    rest_unique n q r hq hr =
        let e = hq.earlier in
        normal_form_unique m hq.count hq.lead hq.rows pos (reduced_is_forward m hq.count hq.lead hq.rows e.reduced)
        (row_of m columns table sums within converts n) q r
        (rest_is n hq.count hq.lead hq.rows q hq.earlier hq) (rest_is n hq.count hq.lead hq.rows r hq.earlier hr)

    -- with the forward row of n there is R(n+1), which is one row longer
    module _ (n count : ℕ) (lead : ℕ → ℕ) (rows : ℕ → ℕ → ℕ) (earlier : IsReducedRows m columns sums n count lead rows) (f : ℕ
        → ℕ) (forward : IsForwardRow m columns sums n f) where
      left : IsNormalForm m count lead rows (row_of m columns table sums within converts n) forward.rest
      left = rest_is n count lead rows forward.rest earlier forward.is_rest

      times : (j : ℕ) → Same m (forward.rest j) 0 → Same m (f j) 0
      times j z = forward.is j ∙ same-mul_left m (forward.rest j) 0 forward.inverse z ∙ ap (λ x. x % m) (omega arith)

      f_one : Same m (f forward.col) 1
      f_one = forward.is forward.col ∙ ap (λ x. x % m) (let e : forward.inverse * forward.rest forward.col
          ≡ forward.rest forward.col * forward.inverse = omega arith in e) ∙ forward.inverts

      f_before : (j : ℕ) → j < forward.col → Same m (f j) 0
      f_before j h = times j (forward.leads.before j h)

      f_clear : (i : ℕ) → i < count → Same m (f (lead i)) 0
      f_clear i l = times (lead i) (left.zero_at_leads i l)

      f_over : IsOver m columns f
      f_over col past = times col (rest_over n forward.rest forward.is_rest col past)

      abbrev lead' : ℕ → ℕ
      lead' = new_lead m count lead rows big earlier.reduced f forward.col f_one f_before f_clear

      abbrev rows' : ℕ → ℕ → ℕ
      rows' = new_rows m count lead rows big earlier.reduced f forward.col f_one f_before f_clear

      rest_listed : Listed (suc n) forward.rest
      rest_listed =
          let v = row_of-is m columns table sums within converts n in
          let comb : ℕ → ℕ = combination count rows left.coefficients in
          let own : Listed (suc n) (row_of m columns table sums within converts n) =
          same_in_span m (suc n) sums (words_of_row columns.list (row_of m columns table sums within converts n)) (sums n) v.words
          (sum_in_span m (suc n) sums n (omega arith)) in
          let below : Listed (suc n) comb =
          listed_more n comb ((earlier.whole comb (combination-over m columns count rows left.coefficients earlier.over)).0
          (left.coefficients, λ col. refl)) in
          same_listed (suc n) forward.rest (λ j. 1 * row_of m columns table sums within converts n j + (m - 1) * comb j)
          (λ j. sym (same-add_right m (1 * row_of m columns table sums within converts n j) (forward.rest j + comb j) ((m - 1) * comb j)
          (ap (λ x. x % m) (omega arith) ∙ left.differs j)
          ∙ ap (λ x. x % m) (let e : forward.rest j + comb j + (m - 1) * comb j ≡ forward.rest j + comb j + comb j * (m - 1) = omega arith in e)
          ∙ same-opposite m (forward.rest j) (comb j) pos))
          (listed_add (suc n) (row_of m columns table sums within converts n) comb 1 (m - 1) own below)

      pub f_listed : InSumSpan m (suc n) sums (words_of_row columns.list f)
      f_listed = same_listed (suc n) f (λ j. forward.inverse * forward.rest j + 0 * forward.rest j) (λ j. forward.is j
          ∙ ap (λ x. x % m) (omega arith)) (listed_add (suc n) forward.rest forward.rest forward.inverse 0 rest_listed rest_listed)

      old_listed : (i : ℕ) → i < count → Listed (suc n) (rows i)
      old_listed i l = listed_more n (rows i) ((earlier.whole (rows i) (earlier.over i l)).0 (row_in_span m count rows i l))

      new_listed : (i : ℕ) → i < suc count → Listed (suc n) (rows' i)
      new_listed = new_rows_cases m count lead rows big earlier.reduced f forward.col f_one f_before f_clear (Listed (suc n)) f_listed
          (λ i l. same_listed (suc n) _ (λ j. 1 * rows i j + rows i forward.col * (m - 1) * f j) (λ j. ap (λ x. x % m) (omega arith))
          (listed_add (suc n) (rows i) f 1 (rows i forward.col * (m - 1)) (old_listed i l) f_listed))

      new_over : (i : ℕ) → i < suc count → IsOver m columns (rows' i)
      new_over = new_rows_cases m count lead rows big earlier.reduced f forward.col f_one f_before f_clear (IsOver m columns) f_over
          (λ i l col past. same-add m (rows i col) 0 (rows i forward.col * (m - 1) * f col) 0 (earlier.over i l col past)
          (same-mul_left m (f col) 0 (rows i forward.col * (m - 1)) (f_over col past) ∙ ap (λ x. x % m) (omega arith)))

      value_in_new : (i : ℕ) → i < suc n → InSpan m (suc count) rows' (row_of m columns table sums within converts i)
      value_in_new i l = elim (cases_eq i n) [
        | inl e ↦ subst (λ x. InSpan m (suc count) rows' (row_of m columns table sums within converts x)) (sym e) last
        | inr ne ↦
            let v = row_of-is m columns table sums within converts i in
            through (row_of m columns table sums within converts i)
            ((earlier.whole (row_of m columns table sums within converts i) v.over).1
            (same_in_span m n sums (words_of_row columns.list (row_of m columns table sums within converts i)) (sums i) v.words
            (sum_in_span m n sums i (omega arith))))
      ]
        where
          through : (p : ℕ → ℕ) → InSpan m count rows p → InSpan m (suc count) rows' p
          through p h = span_through m count (suc count) rows rows'
              (old_row_in_span m count lead rows big earlier.reduced f forward.col f_one f_before f_clear) p h

          last : InSpan m (suc count) rows' (row_of m columns table sums within converts n)
          last =
              let comb : ℕ → ℕ = combination count rows left.coefficients in
              let u : ℕ = forward.rest forward.col in
              same_in_row_span m (suc count) rows' (row_of m columns table sums within converts n) (λ j. u * f j + 1 * comb j)
              (λ j. left.differs j
              ∙ same-add m (forward.rest j) (u * f j) (comb j) (1 * comb j)
              (ap (λ x. x % m) (let e : forward.rest j ≡ 1 * forward.rest j = omega arith in e)
              ∙ same-mul_right m 1 (u * forward.inverse) (forward.rest j) (sym forward.inverts)
              ∙ ap (λ x. x % m) (let e : u * forward.inverse * forward.rest j ≡ u * (forward.inverse * forward.rest j) = omega arith in e)
              ∙ same-mul_left m (forward.inverse * forward.rest j) (f j) u (sym (forward.is j)))
              (ap (λ x. x % m) (omega arith)))
              (row_span_add m (suc count) rows' f comb u 1 (new_row_in_span m count lead rows big earlier.reduced f forward.col f_one f_before f_clear)
              (through comb (left.coefficients, λ col. refl)))

      pub forward_row_added : (next_lead : ℕ → ℕ) × (next_rows : ℕ → ℕ → ℕ) × IsReducedRows m columns sums (suc n) (suc count) next_lead next_rows
      forward_row_added = (
        lead',
        rows',
        record {
          reduced = new_reduced m count lead rows big earlier.reduced f forward.col f_one f_before f_clear;
          over = new_over;
          whole = λ p over. (
            listed_span (suc n) (suc count) rows' new_listed p,
            λ h. span_through m (suc n) (suc count) (row_of m columns table sums within converts) rows' value_in_new p
                ((span_of_rows m columns table sums within converts (suc n) p over).1 h),
          );
        },
      )
