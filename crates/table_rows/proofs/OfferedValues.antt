-- The value of one relation more is offered: what the rows kept leave of it, where the work is broken, and what they span from then on.
use Rattle.std.specs.Prelude.{◌≡◌, ◌≢◌, ℕ, ◌+◌, ◌%◌, ◌<◌, List, [], length}
use Rattle.std.proofs.Common.{sym, ◌∙◌, ap, subst, inl, inr, arith, mod-eq_of_lt}
use Rattle.std.proofs.lemmas.Bool.{cases_eq, cases_lt}
use Rattle.linear_model.specs.Rows.{SameRow, InSpan, SpanWithin, SameSpan, rows_and}
use Rattle.linear_model.specs.Reduced.{IsNormalForm}
use Rattle.linear_model.proofs.Spans.{row_in_span, span_through}
use Rattle.linear_model.proofs.RowSpans.{same_in_row_span}
use Rattle.linear_model.proofs.SpanSteps.{rows_and-last, rows_and-before, same_span_none}
use Rattle.linear_model.proofs.ForwardLists.{in_span_iff}
use Rattle.linear_model.proofs.Sweeps.{normal_form_exists}
use Rattle.column_order.specs.Columns.{ColumnList}
use Rattle.echelon.specs.Lists.{row_at, lead_at, AreForward, AreReduced}
use Rattle.echelon.specs.Offers.{HasNoInverse, TakesIn}
use Rattle.echelon.specs.Finishes.{SameSpanOf}
use Rattle.table_model.specs.Conversion.{IsTable, IsTableSum, Converts, IsCols}
use Rattle.table_model.specs.ListedSpan.{values_of}
use Rattle.table_model.specs.ReducedRows.{IsReducedRows, IsRest, IsBrokenAt, IsUnbroken}
use Rattle.table_model.proofs.RowWords.{cols_unique}
use Rattle.table_model.proofs.SumRows.{row_of, row_of-is}
use Rattle.table_model.proofs.CompleteRows.{listed_value-table}
use Rattle.table_model.proofs.ReducedRowsLaws.{rest_unique}
use Rattle.table_model.proofs.ForwardRowLaws.{unbroken_has_rows}
use Rattle.table_model.proofs.Bridges.{reduced_rows_from_span, rest_from_forward_list}
use Rattle.table_rows.specs.Inner.{SpanFirst}

module _ {E : Type 0} (m : ℕ) (value : E → ℕ) (columns : ColumnList) (table : IsTable m columns) (converts : Converts m columns) where
  within : (k : ℕ) → IsTableSum m columns (values_of m columns k)
  within = listed_value-table m columns table

  cols : ℕ → ℕ → ℕ
  cols = row_of m columns table (values_of m columns) within converts

  cols-are : (n i : ℕ) → i < n → IsCols m columns (values_of m columns i) (cols i)
  unfolding cols
  cols-are n i l = row_of-is m columns table (values_of m columns) within converts i

  -- before the first value there is no row
  pub span_none : SpanFirst m value columns 0 []
  span_none others each = (λ i l. absurd (omega arith), λ i l. absurd (omega arith))

  -- the reduced list of the rows kept is that of the values
  pub reduced_rows_of : (n : ℕ) (kept list : List (List (ℕ × E))) → SpanFirst m value columns n kept → AreReduced m value list
      → SameSpanOf m value kept list → IsReducedRows m columns (values_of m columns) n (length list) (lead_at list) (row_at value list)
  reduced_rows_of n kept list spans reduced same =
      let both = spans cols (cols-are n) in
      reduced_rows_from_span m columns table converts (values_of m columns) n (length list) (lead_at list) (row_at value list) cols (cols-are n) reduced (
        λ i l. span_through m (length kept) n (row_at value kept) cols both.0 (row_at value list i) (same.1 i l),
        λ i l. span_through m (length kept) (length list) (row_at value kept) (row_at value list) same.0 (cols i) (both.1 i l),
      )

  module _ (n : ℕ) (kept : List (List (ℕ × E))) (p : ℕ → ℕ) (spans : SpanFirst m value columns n kept)
      (is : IsCols m columns (values_of m columns n) p) where
    same-cols : (others : ℕ → ℕ → ℕ) → IsCols m columns (values_of m columns n) (others n) → SameRow m p (others n)
    same-cols others are = cols_unique m columns table converts (values_of m columns n) p (others n) is are

    -- the rows kept and the row of the value have the span of the values with that one
    pub span_next : (new : List (List (ℕ × E))) → TakesIn m value kept p new → SpanFirst m value columns (n + 1) new
    span_next new taken others each = (
      λ i l. span_through m (k + 1) (n + 1) both others into (row_at value new i) (taken.1 i l),
      λ i l. span_through m (k + 1) (length new) both (row_at value new) taken.0 (others i) (back i l),
    )
      where
        k : ℕ
        k = length kept

        both : ℕ → ℕ → ℕ
        both = rows_and (length kept) (row_at value kept) p

        base : SameSpan m (length kept) (row_at value kept) n others
        base = spans others (λ i l. each i (omega arith))

        same : SameRow m p (others n)
        same = same-cols others (each n (omega arith))

        into : SpanWithin m (length kept + 1) (rows_and (length kept) (row_at value kept) p) (n + 1) others
        into i l = elim (cases_eq i (length kept)) [
          | inl e ↦ subst (InSpan m (n + 1) others)
              (sym (ap (rows_and (length kept) (row_at value kept) p) e ∙ rows_and-last m (length kept) (row_at value kept) p))
              (same_in_row_span m (n + 1) others p (others n) same (row_in_span m (n + 1) others n (omega arith)))
          | inr ne ↦ subst (InSpan m (n + 1) others) (sym (rows_and-before m (length kept) (row_at value kept) p i ne))
              (span_through m n (n + 1) others others (λ j lj. row_in_span m (n + 1) others j (omega arith)) (row_at value kept i) (base.0 i (omega arith)))
        ]

        back : SpanWithin m (n + 1) others (length kept + 1) (rows_and (length kept) (row_at value kept) p)
        back i l = elim (cases_eq i n) [
          | inl e ↦ subst (λ x. InSpan m (length kept + 1) (rows_and (length kept) (row_at value kept) p) (others x)) (sym e)
              (same_in_row_span m (length kept + 1) (rows_and (length kept) (row_at value kept) p) (others n) p (λ col. sym (same col))
              (subst (InSpan m (length kept + 1) (rows_and (length kept) (row_at value kept) p)) (rows_and-last m (length kept) (row_at value kept) p)
              (row_in_span m (length kept + 1) (rows_and (length kept) (row_at value kept) p) (length kept) (omega arith))))
          | inr ne ↦ span_through m (length kept) (length kept + 1) (row_at value kept) (rows_and (length kept) (row_at value kept) p)
              (λ j lj. let other : j ≢ length kept = omega arith in
              subst (InSpan m (length kept + 1) (rows_and (length kept) (row_at value kept) p)) (rows_and-before m (length kept) (row_at value kept) p j other)
              (row_in_span m (length kept + 1) (rows_and (length kept) (row_at value kept) p) j (omega arith)))
              (others i) (base.1 i (omega arith))
        ]

    -- those kept have it already, where the row of the value is one of their span
    pub span_same : InSpan m (length kept) (row_at value kept) p → SpanFirst m value columns (n + 1) kept
    span_same lies = span_next kept (same_span_none m (length kept) (row_at value kept) p lies)

    module _ (forward : AreForward m value kept) (whole : IsUnbroken m columns (values_of m columns) n) where
      one : 1 % m ≡ 1
      one = mod-eq_of_lt (omega (arith, table.modulus))

      -- what the rows kept leave of the value is its rest
      rest_of : (q : ℕ → ℕ) → IsNormalForm m (length kept) (lead_at kept) (row_at value kept) p q → IsRest m columns (values_of m columns) n q
      rest_of q left =
          let (count, lead, others, earlier) = unbroken_has_rows m columns table (values_of m columns) within converts n whole in
          rest_from_forward_list m columns table converts (values_of m columns) n (length kept) count (lead_at kept) lead (row_at value kept) others cols
          (λ i l. cols-are (n + 1) i (omega arith)) earlier forward (spans cols (cols-are n)) q (record {
            zero_at_leads = left.zero_at_leads;
            coefficients = left.coefficients;
            differs = λ col. sym (same-cols cols (cols-are (n + 1) n (omega arith)) col) ∙ left.differs col;
          })

      -- where the elimination finds no inverse, the work is broken
      pub broken : (lead : ℕ) → HasNoInverse m value kept p lead → IsBrokenAt m columns (values_of m columns) n lead
      broken lead h = record {
        rest = h.remainder;
        is_rest = rest_of h.remainder h.is_remainder;
        col = h.column;
        leads = h.leads;
        told = sym h.residue;
        none = λ (b, e). h.no_inverse b (e ∙ one);
      }

      fails : (residue : ℕ) → IsBrokenAt m columns (values_of m columns) n residue → HasNoInverse m value kept p residue
      fails residue b =
          let found : (q : ℕ → ℕ) × IsNormalForm m (length kept) (lead_at kept) (row_at value kept) p q =
          normal_form_exists m (lead_at kept) (row_at value kept) (length kept) p (omega (arith, table.modulus)) forward in
          let q = found.0 in
          let same : SameRow m q b.rest =
          rest_unique m columns table (values_of m columns) within converts n q b.rest (rest_of q found.1) b.is_rest in
          let at = b.leads in
          record {
            remainder = q;
            column = b.col;
            is_remainder = found.1;
            leads = record { before = λ j l. same j ∙ at.before j l; here = λ z. at.here (sym (same b.col) ∙ z) };
            residue = sym (same b.col ∙ b.told);
            no_inverse = λ c e. b.none (c, e ∙ sym one);
          }

      -- and where it does not, the work is not broken at that value
      pub unbroken_next : ((lead : ℕ) → ¬ (HasNoInverse m value kept p lead)) → IsUnbroken m columns (values_of m columns) (n + 1)
      unbroken_next fits k l residue b = elim (cases_lt k n) [
        | inl less ↦ whole k less residue b
        | inr late ↦ let e : k ≡ n = omega arith in
            fits residue (fails residue (subst (λ x. IsBrokenAt m columns (values_of m columns) x residue) e b))
      ]

      -- a row of the span leads with nothing
      pub unbroken_same : InSpan m (length kept) (row_at value kept) p → IsUnbroken m columns (values_of m columns) (n + 1)
      unbroken_same lies = unbroken_next (λ lead h.
          let leads = h.leads in
          leads.here ((in_span_iff m (length kept) (lead_at kept) (row_at value kept) (omega (arith, table.modulus)) forward p h.remainder h.is_remainder).0 lies
          h.column))
