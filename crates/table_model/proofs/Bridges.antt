-- From lists of rows that elimination keeps to the reduced rows of the sums that were offered.
use Rattle.std.specs.Prelude.{◌≡◌, ℕ, suc, ◌%◌, ◌<◌, cond, eqb, length}
use Rattle.std.proofs.Common.{refl, sym, ◌∙◌, ap, subst, arith, mod-eq_of_lt}
use Rattle.std.proofs.lemmas.Bool.{ne_eqb}
use Rattle.zeta_model.specs.Modular.{Same}
use Rattle.zeta_model.specs.Sums.{Sum}
use Rattle.zeta_model.proofs.ModularLemmas.{same-add_left, same-add_right}
use Rattle.linear_model.specs.Rows.{combination, SameRow, InSpan, SameSpan}
use Rattle.linear_model.specs.Reduced.{IsReduced, IsNormalForm}
use Rattle.linear_model.specs.Forward.{IsForward}
use Rattle.linear_model.proofs.Spans.{row_in_span, span_through}
use Rattle.linear_model.proofs.ForwardLists.{reduced_is_forward, normal_form_unique}
use Rattle.linear_model.proofs.ReducedLists.{lead_of_span}
use Rattle.linear_model.proofs.Sweeps.{normal_form_exists}
use Rattle.column_order.specs.Columns.{ColumnList}
use Rattle.table_model.specs.MonomialWords.{column_at, words_of_monomial}
use Rattle.table_model.specs.Conversion.{IsTable, Converts, IsOver, IsCols}
use Rattle.table_model.specs.ReducedRows.{IsReducedRows, IsRest}
use Rattle.linear_model.proofs.Combinations.{combination-one}
use Rattle.table_model.proofs.RowWords.{combination-over, span_of_cols}

one_not_zero : (m : ℕ) → 1 < m → ¬ (Same m 1 0)
one_not_zero m h e = let a : 1 % m ≡ 1 = mod-eq_of_lt h in let b : 0 % m ≡ 0 = mod-eq_of_lt (omega arith) in absurd (omega arith)

-- a normal form by a forward list is one by the reduced list of the same span
pub reduced_normal_form : (m n k : ℕ) (lead other_lead : ℕ → ℕ) (rows others : ℕ → ℕ → ℕ) → 1 < m → IsForward m n lead rows
    → IsReduced m k other_lead others → SameSpan m n rows k others
    → (p q : ℕ → ℕ) → IsNormalForm m n lead rows p q → IsNormalForm m k other_lead others p q
reduced_normal_form m n k lead other_lead rows others big forward reduced spans p q h =
    let (r, left) = normal_form_exists m other_lead others k p (omega arith) (reduced_is_forward m k other_lead others reduced) in
    let through : InSpan m n rows (combination k others left.coefficients) =
    span_through m k n others rows spans.1 (combination k others left.coefficients) (left.coefficients, λ col. refl) in
    let found : (i : ℕ) → i < n → (l : ℕ) × (l < k) × (other_lead l ≡ lead i) = λ i l.
    lead_of_span m k other_lead others reduced (rows i) (lead i) (spans.0 i l)
    (record { before = λ j. forward.before i j l; here = λ e. one_not_zero m big (sym (forward.one i l) ∙ e) }) in
    let same : SameRow m q r = normal_form_unique m n lead rows (omega arith) forward p q r h (record {
      zero_at_leads = λ i l. let f = found i l in subst (λ x. Same m (r x) 0) f.2 (left.zero_at_leads f.0 f.1);
      coefficients = through.0;
      differs = λ col. left.differs col
          ∙ same-add_left m (combination k others left.coefficients col) (combination n rows through.0 col) (r col) (through.1 col);
    }) in
    record {
      zero_at_leads = λ i l. same (other_lead i) ∙ left.zero_at_leads i l;
      coefficients = left.coefficients;
      differs = λ col. left.differs col ∙ same-add_right m (r col) (q col) (combination k others left.coefficients col) (sym (same col));
    }

module _ (m : ℕ) (columns : ColumnList) where
  -- what lies in a span of rows over the columns is one
  pub span_over : (n : ℕ) (rows : ℕ → ℕ → ℕ) → ((i : ℕ) → i < n → IsOver m columns (rows i)) → (p : ℕ → ℕ) → InSpan m n rows p → IsOver m columns p
  span_over n rows over p (c, is) col past = is col ∙ combination-over m columns n rows c over col past

  -- the row that is 1 at one column is the row of the column's monomial
  pub unit_row-is : (col : ℕ) → col < length columns.list → IsCols m columns (words_of_monomial (column_at columns.list col)) (λ j. cond (eqb j col) 1 0)
  unit_row-is col l = record {
    over = λ j past. ap (λ b. cond b 1 0 % m) (ne_eqb j col (omega arith));
    words = λ t. combination-one m (length columns.list) (λ i _. words_of_monomial (column_at columns.list i) t) col 1 0 l ∙ ap (λ x. x % m) (omega arith);
  }

  module _ (table : IsTable m columns) (converts : Converts m columns) (sums : ℕ → Sum) where
    -- a reduced list with the span of the rows of the first n sums is their list of reduced rows
    pub reduced_rows_from_span : (n count : ℕ) (lead : ℕ → ℕ) (list rows : ℕ → ℕ → ℕ) → ((i : ℕ) → i < n → IsCols m columns (sums i) (rows i))
        → IsReduced m count lead list → SameSpan m count list n rows → IsReducedRows m columns sums n count lead list
    reduced_rows_from_span n count lead list rows each reduced spans = record {
      reduced = reduced;
      over = λ i l. span_over n rows (λ k lk. let r : IsCols m columns (sums k) (rows k) = each k lk in r.over) (list i) (spans.0 i l);
      whole = λ p over. let both = span_of_cols m columns table converts n sums rows each p over in (
        λ h. both.0 (span_through m count n list rows spans.0 p h),
        λ h. span_through m n count rows list spans.1 p (both.1 h),
      );
    }

    -- a forward list with that span leaves the rest of sum number n
    pub rest_from_forward_list : (n count k : ℕ) (lead other_lead : ℕ → ℕ) (list others rows : ℕ → ℕ → ℕ)
        → ((i : ℕ) → i < suc n → IsCols m columns (sums i) (rows i)) → IsReducedRows m columns sums n k other_lead others → IsForward m count lead list
        → SameSpan m count list n rows
        → (q : ℕ → ℕ) → IsNormalForm m count lead list (rows n) q → IsRest m columns sums n q
    rest_from_forward_list n count k lead other_lead list others rows each earlier forward spans q h =
        let big : 1 < m = omega (arith, table.modulus) in
        let below : (i : ℕ) → i < n → IsCols m columns (sums i) (rows i) = λ i l. each i (omega arith) in
        let over : (i : ℕ) → i < n → IsOver m columns (rows i) = λ i l. let r : IsCols m columns (sums i) (rows i) = below i l in r.over in
        let same : SameSpan m count list k others = (
          λ i l. (earlier.whole (list i) (span_over n rows over (list i) (spans.0 i l))).1
              ((span_of_cols m columns table converts n sums rows below (list i) (span_over n rows over (list i) (spans.0 i l))).0 (spans.0 i l)),
          λ i l. span_through m n count rows list spans.1 (others i)
              ((span_of_cols m columns table converts n sums rows below (others i) (earlier.over i l)).1
              ((earlier.whole (others i) (earlier.over i l)).0 (row_in_span m k others i l))),
        ) in
        record {
          count = k;
          lead = other_lead;
          rows = others;
          cols = rows n;
          earlier = earlier;
          value = each n (omega arith);
          left = reduced_normal_form m count k lead other_lead list others big forward earlier.reduced same (rows n) q h;
        }
