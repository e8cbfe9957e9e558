-- The reduced rows of unbroken work are sums of its forward rows.
use Rattle.std.specs.Prelude.{◌≡◌, ℕ, zero, suc, ◌+◌, ◌*◌, ◌%◌, ◌<◌, ◌≤◌, length}
use Rattle.std.proofs.Common.{refl, sym, ◌∙◌, ap, subst, inl, inr, arith}
use Rattle.std.proofs.lemmas.Bool.{cases_eq}
use Rattle.zeta_model.specs.Sums.{Sum}
use Rattle.zeta_model.proofs.ModularLemmas.{same-mul_left, same-mul_right}
use Rattle.linear_model.specs.Rows.{combination, SameRow, InSpan}
use Rattle.linear_model.proofs.Spans.{row_in_span, span_through}
use Rattle.linear_model.proofs.RowSpans.{same_in_row_span, row_span_add}
use Rattle.column_order.specs.Columns.{ColumnList}
use Rattle.table_model.specs.Conversion.{IsTable, IsTableSum, Converts}
use Rattle.table_model.specs.ReducedRows.{IsReducedRows, IsRest, IsForwardRow, IsUnbroken}
use Rattle.table_model.proofs.Inverses.{lead_or_zero}
use Rattle.table_model.proofs.SumRows.{row_of, span_of_rows}
use Rattle.table_model.proofs.ReducedRowsLaws.{rest_over, rest_is, rest_exists, rest_unique}
use Rattle.table_model.proofs.ForwardRowLaws.{unbroken_has_rows, accepted_has_forward_row}
use Rattle.file_model.proofs.SameWork.{no_combination}

-- the count rows have each forward row of the first n numbers in their span
module _ (m : ℕ) (columns : ColumnList) (table : IsTable m columns) (sums : ℕ → Sum) (within : (k : ℕ) → IsTableSum m columns (sums k))
    (converts : Converts m columns) (n : ℕ) (un : IsUnbroken m columns sums n) (count : ℕ) (rows : ℕ → ℕ → ℕ)
    (there : (k : ℕ) (p : ℕ → ℕ) → k < n → IsForwardRow m columns sums k p → InSpan m count rows p) where
  abbrev R : ℕ → ℕ → ℕ
  R = row_of m columns table sums within converts

  -- reduced rows lie in it where the rows of their sums do
  reduced_through : (k : ℕ) → ((i : ℕ) → i < k → InSpan m count rows (R i)) → (size : ℕ) (lead : ℕ → ℕ) (reduced : ℕ → ℕ → ℕ)
      → IsReducedRows m columns sums k size lead reduced → (i : ℕ) → i < size → InSpan m count rows (reduced i)
  reduced_through k each size lead reduced h i l =
      let over = h.over i l in
      let listed = (h.whole (reduced i) over).0 (row_in_span m size reduced i l) in
      span_through m k count R rows each (reduced i) ((span_of_rows m columns table sums within converts k (reduced i) over).1 listed)

  -- a rest is zero, or its lead times the forward row
  rest_in_span : (k : ℕ) → k < n → (q : ℕ → ℕ) → IsRest m columns sums k q → InSpan m count rows q
  rest_in_span k l q r = elim (lead_or_zero m q (length columns.list) (rest_over m columns table sums k q r)) [
    | inr zeros ↦ (λ _. 0, λ col. zeros col ∙ ap (λ x. x % m) (sym (no_combination count rows col)))
    | inl (col, leads) ↦
        let (p, f) = accepted_has_forward_row m columns table sums within converts k (un k l) (q, r, λ z. leads.here (z col)) in
        let same : SameRow m q f.rest = rest_unique m columns table sums within converts k q f.rest r f.is_rest in
        let a : ℕ = f.rest f.col in
        let scaled : SameRow m q (λ j. a * p j + 0 * p j) = λ j.
        same j ∙ ap (λ x. x % m) (let z : f.rest j ≡ 1 * f.rest j = omega arith in z)
        ∙ sym (same-mul_right m (a * f.inverse) 1 (f.rest j) f.inverts)
        ∙ ap (λ x. x % m) (let z : a * f.inverse * f.rest j ≡ a * (f.inverse * f.rest j) = omega arith in z)
        ∙ sym (same-mul_left m (p j) (f.inverse * f.rest j) a (f.is j)) ∙ ap (λ x. x % m) (let z : a * p j ≡ a * p j + 0 * p j = omega arith in z) in
        let own : InSpan m count rows p = there k p l f in
        same_in_row_span m count rows q (λ j. a * p j + 0 * p j) scaled (row_span_add m count rows p p a 0 own own)
  ]

  own_row : (k : ℕ) → k < n → ((i : ℕ) → i < k → InSpan m count rows (R i)) → InSpan m count rows (R k)
  own_row k l each =
      let (size, lead, reduced, h) = unbroken_has_rows m columns table sums within converts k (λ i li. un i (omega (arith, l))) in
      let (q, r) = rest_exists m columns table sums within converts k size lead reduced h in
      let left = rest_is m columns table sums within converts k size lead reduced q h r in
      let comb : ℕ → ℕ = combination size reduced left.coefficients in
      let low : InSpan m count rows comb =
      span_through m size count reduced rows (reduced_through k each size lead reduced h) comb (left.coefficients, λ _. refl) in
      same_in_row_span m count rows (R k) (λ j. 1 * q j + 1 * comb j) (λ j. left.differs j ∙ ap (λ x. x % m) (omega arith))
      (row_span_add m count rows q comb 1 1 (rest_in_span k l q r) low)

  row_in : (k : ℕ) → k ≤ n → (i : ℕ) → i < k → InSpan m count rows (R i)
  row_in zero l i li = absurd (omega arith)
  row_in (suc k) l i li = elim (cases_eq i k) [
    | inl at ↦ subst (λ x. InSpan m count rows (R x)) (sym at) (own_row k (omega (arith, l)) (row_in k (omega (arith, l))))
    | inr ne ↦ row_in k (omega (arith, l)) i (omega (arith, li, ne))
  ]

  pub reduced_in_span : (size : ℕ) (lead : ℕ → ℕ) (reduced : ℕ → ℕ → ℕ) → IsReducedRows m columns sums n size lead reduced
      → (i : ℕ) → i < size → InSpan m count rows (reduced i)
  reduced_in_span = reduced_through n (row_in n (omega arith))
