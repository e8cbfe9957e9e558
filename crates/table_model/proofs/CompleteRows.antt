-- Complete rows are the reduced rows of all listed relations, and these tell sums apart.
use Rattle.std.specs.Prelude.{◌≡◌, ℕ, ◌+◌, ◌-◌, ◌*◌, ◌%◌, ◌<◌, ◌↔◌, zero, suc, Option, Some, None, List, length, slice_get}
use Rattle.std.proofs.Common.{refl, sym, ◌∙◌, ap, arith}
use Rattle.std.specs.List.{Contains}
use Rattle.std.proofs.lemmas.Option.{slice_get_within, get_or_from_slice_get}
use Rattle.zeta_model.specs.declared.Letter.{Letter}
use Rattle.zeta_model.specs.Modular.{Same}
use Rattle.zeta_model.specs.Sums.{Sum, SameSum, difference}
use Rattle.zeta_model.proofs.ModularLemmas.{same-add, same-mul_left}
use Rattle.linear_model.specs.Rows.{combination, SameRow, InSpan}
use Rattle.linear_model.specs.Forward.{IsForward}
use Rattle.linear_model.proofs.Spans.{span_through}
use Rattle.linear_model.proofs.ForwardLists.{reduced_is_forward, in_span_iff}
use Rattle.linear_model.proofs.Sweeps.{normal_form_exists}
use Rattle.column_order.specs.Columns.{ColumnList}
use Rattle.relation_list.specs.declared.names.RelName.{RelName}
use Rattle.relation_list.specs.Listings.{listing_of}
use Rattle.relation_list.specs.Values.{value_of, IsWordOf}
use Rattle.relation_list.proofs.WholeListing.{listing_of-whole}
use Rattle.relation_list.proofs.ValueWords.{value_of-words}
use Rattle.table_model.specs.MonomialWords.{column_at, words_of_monomial, words_of_row}
use Rattle.table_model.specs.Conversion.{IsTable, IsTableSum, Converts, IsOver}
use Rattle.table_model.specs.ListedSpan.{value_where, listed_value, relation_count, values_of, InSpanOfAll}
use Rattle.table_model.specs.ReducedRows.{IsReducedRows}
use Rattle.table_model.specs.Complete.{IsComplete, Tells}
use Rattle.table_model.proofs.SumSpans.{same_in_span, sum_span_through, sum_combination-add, sum_combination-scaled}
use Rattle.table_model.proofs.RowWords.{same-words_of_row, words_of_row-combination}
use Rattle.linear_model.proofs.NormalForms.{row_difference, same_normal_form}
use Rattle.table_model.proofs.SumRows.{row_of, row_of-is, span_of_rows}

module _ (m : ℕ) (columns : ColumnList) (table : IsTable m columns) where
  pos : 0 < m
  pos = omega (arith, table.modulus)

  -- each listed value is a sum of words of the table
  pub listed_value-table : (n : ℕ) → IsTableSum m columns (listed_value m columns.weight columns.depth n)
  unfolding listed_value
  listed_value-table n t none = at (slice_get (listing_of columns.weight columns.depth) n) refl
    where
      named : (name : RelName) → Contains (listing_of columns.weight columns.depth) name → (k : ℕ) → value_of m name t ≡ k → Same m (value_of m name t) 0
      named name held zero e = ap (λ x. x % m) e
      named name held (suc k) e =
          let lim = table.limits in
          let whole = (listing_of-whole columns.weight columns.depth name lim.most).0 held in
          let word : IsWordOf name t = value_of-words m name t whole.0 (omega arith) in
          absurd (none (record { admissible = word.admissible; weight = word.weight ∙ whole.1; depth = omega (arith, word.depth, whole.2) }))

      at : (o : Option RelName) → slice_get (listing_of columns.weight columns.depth) n ≡ o → Same m (value_where m o t) 0
      at None e = refl
      at (Some name) e = named name (
        n,
        slice_get_within (listing_of columns.weight columns.depth) n name e,
        get_or_from_slice_get
            (listing_of columns.weight columns.depth) n name name e,
      ) (value_of m name t) refl

  -- complete rows are the reduced rows of all listed relations
  pub complete_is_reduced_rows : (count : ℕ) (lead : ℕ → ℕ) (rows combinations : ℕ → ℕ → ℕ) → IsComplete m columns count lead rows combinations
      → IsReducedRows m columns (values_of m columns) (relation_count columns.weight columns.depth) count lead rows
  complete_is_reduced_rows count lead rows combinations complete =
      record { reduced = complete.reduced; over = complete.over; whole = λ p over. (there p, back p over) }
    where
      converts : Converts m columns
      converts = complete.converts

      forward : IsForward m count lead rows
      forward = reduced_is_forward m count lead rows complete.reduced

      there : (p : ℕ → ℕ) → InSpan m count rows p → InSpanOfAll m columns.weight columns.depth (words_of_row columns.list p)
      there p (c, is) =
          sum_span_through m count (relation_count columns.weight columns.depth) (λ i. words_of_row columns.list (rows i))
          (listed_value m columns.weight columns.depth)
          (λ i l. (combinations i, complete.evaluates i l)) (words_of_row columns.list p) (
            c,
            λ t. same-words_of_row m columns p (combination count rows c) is t
                ∙ ap (λ (f : Sum). f t % m) (words_of_row-combination columns.list count rows c),
          )

      value_in_span : (n : ℕ) → n < relation_count columns.weight columns.depth
          → InSpan m count rows (row_of m columns table (values_of m columns) listed_value-table converts n)
      value_in_span n l =
          let (q, left) = normal_form_exists m lead rows count (row_of m columns table (values_of m columns) listed_value-table converts n) pos forward in
          (in_span_iff m count lead rows pos forward (row_of m columns table (values_of m columns) listed_value-table converts n) q left).1
          (complete.nothing_missing n l q
          (record {
            cols = row_of m columns table (values_of m columns) listed_value-table converts n;
            is_cols = row_of-is m columns table
                (values_of m columns) listed_value-table converts n;
            left = left;
          }))

      back : (p : ℕ → ℕ) → IsOver m columns p → InSpanOfAll m columns.weight columns.depth (words_of_row columns.list p) → InSpan m count rows p
      back p over h =
          span_through m (relation_count columns.weight columns.depth) count
          (row_of m columns table (values_of m columns) listed_value-table converts) rows value_in_span p
          ((span_of_rows m columns table (values_of m columns) listed_value-table converts (relation_count columns.weight columns.depth) p over).1 h)

  -- the words of a difference of rows
  words_of_row-difference : (p q : ℕ → ℕ) (t : List Letter)
      → words_of_row columns.list (row_difference m p q) t ≡ difference m (words_of_row columns.list p) (words_of_row columns.list q) t
  words_of_row-difference p q t =
      sum_combination-add (length columns.list) (λ col. words_of_monomial (column_at columns.list col)) p (λ col. (m - 1) * q col) t
      ∙ ap (λ x. words_of_row columns.list p t + x)
      (sum_combination-scaled (length columns.list) (λ col. words_of_monomial (column_at columns.list col)) (m - 1) q t)

  -- two sums have one polynomial by R(N) exactly where their difference is in the span of all listed relations
  pub reduced_rows_tell : (count : ℕ) (lead : ℕ → ℕ) (rows : ℕ → ℕ → ℕ)
      → IsReducedRows m columns (values_of m columns) (relation_count columns.weight columns.depth) count lead rows → Tells m columns count lead rows
  reduced_rows_tell count lead rows reduced s t p q ps pt =
      let n : ℕ = relation_count columns.weight columns.depth in
      let values : ℕ → Sum = listed_value m columns.weight columns.depth in
      let apart : ℕ → ℕ = row_difference m ps.cols pt.cols in
      let same : SameRow m p q ↔ InSpan m count rows apart =
      same_normal_form m count lead rows pos (reduced_is_forward m count lead rows reduced.reduced) ps.cols pt.cols p q ps.left pt.left in
      let words : SameSum m (words_of_row columns.list apart) (difference m s t) =
      λ u. ap (λ x. x % m) (words_of_row-difference ps.cols pt.cols u)
      ∙ same-add m _ _ _ _ (ps.is_cols.words u) (same-mul_left m _ _ (m - 1) (pt.is_cols.words u)) in
      let over : IsOver m columns apart =
      λ col l. same-add m (ps.cols col) 0 ((m - 1) * pt.cols col) ((m - 1) * 0) (ps.is_cols.over col l)
      (same-mul_left m (pt.cols col) 0 (m - 1) (pt.is_cols.over col l)) ∙ ap (λ x. x % m) (let e : 0 + (m - 1) * 0 ≡ 0 = omega arith in e) in (
        λ e. same_in_span m n values (difference m s t) (words_of_row columns.list apart) (λ u. sym (words u)) ((reduced.whole apart over).0 (same.0 e)),
        λ h. same.1 ((reduced.whole apart over).1 (same_in_span m n values (words_of_row columns.list apart) (difference m s t) words h)),
      )
