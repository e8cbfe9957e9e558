-- Results of shares: the reduced rows of the share's relations, and those of all shares together.
use Rattle.std.specs.Prelude.{ℕ, ◌+◌, ◌*◌, ◌%◌, ◌<◌}
use Rattle.std.proofs.Common.{refl, ◌∙◌, ap, arith}
use Rattle.zeta_model.specs.Sums.{Sum}
use Rattle.linear_model.specs.Rows.{combination, SameRow, InSpan}
use Rattle.linear_model.specs.Reduced.{IsReduced}
use Rattle.linear_model.specs.Forward.{IsForward}
use Rattle.linear_model.proofs.Spans.{span_through}
use Rattle.linear_model.proofs.RowSpans.{same_in_row_span}
use Rattle.linear_model.proofs.ForwardLists.{reduced_is_forward, in_span_iff}
use Rattle.linear_model.proofs.Sweeps.{normal_form_exists}
use Rattle.column_order.specs.Columns.{ColumnList}
use Rattle.table_model.specs.MonomialWords.{words_of_row}
use Rattle.table_model.specs.Conversion.{IsTable, IsTableSum, Converts, IsOver}
use Rattle.table_model.specs.ListedSpan.{values_of, count_of, InSumSpan}
use Rattle.table_model.specs.ReducedRows.{IsReducedRows}
use Rattle.table_model.specs.Complete.{Evaluates, IsPolynomial, IsComplete}
use Rattle.table_model.proofs.SumSpans.{same_in_span, sum_span_through}
use Rattle.table_model.proofs.SumRows.{row_of, row_of-is, span_of_rows}
use Rattle.table_model.proofs.RowWords.{same-words_of_row, words_of_row-combination, cols_unique}
use Rattle.table_model.proofs.CompleteRows.{listed_value-table}
use Rattle.table_model.proofs.Polynomials.{polynomial_exists}
use Rattle.share_model.specs.Dealing.{share_values, share_size, AllOfShare, IsShareResult}
use Rattle.share_model.proofs.Numbers.{dealt, size_below}
use Rattle.share_model.proofs.ShareSpans.{value_in_span, row_in_span}

module _ (m : ℕ) (columns : ColumnList) (table : IsTable m columns) (converts : Converts m columns) where
  pos : 0 < m
  pos = omega (arith, table.modulus)

  module _ (index shares : ℕ) (inside : index < shares) (count : ℕ) (lead : ℕ → ℕ) (rows combinations : ℕ → ℕ → ℕ) where
    abbrev values : ℕ → Sum
    values = share_values m columns index shares

    abbrev size : ℕ
    size = share_size columns index shares

    -- the reduced rows of the share's relations are a result of it
    pub reduced_rows_are_result : IsReducedRows m columns values size count lead rows → AllOfShare m columns index shares count rows combinations
        → IsShareResult m columns index shares count lead rows combinations
    reduced_rows_are_result h all = record {
      reduced = h.reduced;
      over = h.over;
      all = all;
      nothing_missing = λ n l e q p.
          let c = p.is_cols in
          let listed : InSumSpan m size values (words_of_row columns.list p.cols) =
          same_in_span m size values (words_of_row columns.list p.cols) (values_of m columns n) c.words
          (value_in_span m columns index shares inside n l e) in
          (in_span_iff m count lead rows pos (reduced_is_forward m count lead rows h.reduced) p.cols q p.left).0 ((h.whole p.cols c.over).1 listed);
    }

    -- and a result has no others
    pub result_is_reduced_rows : IsShareResult m columns index shares count lead rows combinations → IsReducedRows m columns values size count lead rows
    result_is_reduced_rows r = record { reduced = r.reduced; over = r.over; whole = λ p over. (there p, back p over) }
      where
        within : (k : ℕ) → IsTableSum m columns (values k)
        within k = listed_value-table m columns table (index + shares * k)

        forward : IsForward m count lead rows
        forward = reduced_is_forward m count lead rows r.reduced

        there : (p : ℕ → ℕ) → InSpan m count rows p → InSumSpan m size values (words_of_row columns.list p)
        there p (c, is) =
            sum_span_through m count size (λ i. words_of_row columns.list (rows i)) values
            (λ i l. row_in_span m columns index shares inside (rows i) (combinations i) (r.all i l)) (words_of_row columns.list p) (
              c,
              λ t. same-words_of_row m columns p (combination count rows c) is t
                  ∙ ap (λ (f : Sum). f t % m) (words_of_row-combination columns.list count rows c),
            )

        value_row_in_span : (k : ℕ) → k < size → InSpan m count rows (row_of m columns table values within converts k)
        value_row_in_span k l =
            let own : ℕ → ℕ = row_of m columns table values within converts k in
            let (q, left) = normal_form_exists m lead rows count own pos forward in
            (in_span_iff m count lead rows pos forward own q left).1
            (r.nothing_missing (index + shares * k) (size_below (count_of columns) index shares k inside l) (dealt index shares k inside) q
            (record { cols = own; is_cols = row_of-is m columns table values within converts k; left = left }))

        back : (p : ℕ → ℕ) → IsOver m columns p → InSumSpan m size values (words_of_row columns.list p) → InSpan m count rows p
        back p over h =
            span_through m size count (row_of m columns table values within converts) rows value_row_in_span p
            ((span_of_rows m columns table values within converts size p over).1 h)

  -- a reduced list whose span has the rows of a result of each share leaves nothing of any relation
  pub results_merge : (shares : ℕ) → 0 < shares → (counts : ℕ → ℕ) (leads : ℕ → ℕ → ℕ) (results combinations_of : ℕ → ℕ → ℕ → ℕ)
      → ((index : ℕ) → index < shares → IsShareResult m columns index shares (counts index) (leads index) (results index) (combinations_of index))
      → (count : ℕ) (lead : ℕ → ℕ) (rows combinations : ℕ → ℕ → ℕ) → IsReduced m count lead rows → ((i : ℕ) → i < count → IsOver m columns (rows i))
      → ((i : ℕ) → i < count → Evaluates m columns (rows i) (combinations i))
      → ((index i : ℕ) → index < shares → i < counts index → InSpan m count rows (results index i))
      → IsComplete m columns count lead rows combinations
  results_merge shares some counts leads results combinations_of each count lead rows combinations reduced over evaluates spans = record {
    converts = converts;
    reduced = reduced;
    over = over;
    evaluates = evaluates;
    nothing_missing = missing;
  }
    where
      missing : (n : ℕ) → n < count_of columns → (q : ℕ → ℕ) → IsPolynomial m columns count lead rows (values_of m columns n) q → SameRow m q (λ _. 0)
      missing n l q p =
          let index : ℕ = n % shares in
          let inside : index < shares = omega (arith, some) in
          let r : IsShareResult m columns index shares (counts index) (leads index) (results index) (combinations_of index) = each index inside in
          let (rest, is) = polynomial_exists m columns table converts (counts index) (leads index) (results index) r.reduced (values_of m columns n)
          (listed_value-table m columns table n) in
          let zero : SameRow m rest (λ _. 0) = r.nothing_missing n l refl rest is in
          let own : InSpan m (counts index) (results index) is.cols =
          (in_span_iff m (counts index) (leads index) (results index) pos (reduced_is_forward m (counts index) (leads index) (results index) r.reduced)
          is.cols rest is.left).1 zero in
          let same : SameRow m p.cols is.cols = cols_unique m columns table converts (values_of m columns n) p.cols is.cols p.is_cols is.is_cols in
          (in_span_iff m count lead rows pos (reduced_is_forward m count lead rows reduced) p.cols q p.left).0
          (same_in_row_span m count rows p.cols is.cols same
          (span_through m (counts index) count (results index) rows (λ i. spans index i inside) is.cols own))
