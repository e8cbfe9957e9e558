-- A value that is known to add nothing to the rows kept is as good as offered.
use Rattle.std.specs.Prelude.{◌≡◌, ℕ, suc, ◌%◌, ◌<◌, List, length}
use Rattle.std.proofs.Common.{◌∙◌, ap, arith}
use Rattle.zeta_model.specs.declared.Letter.{Letter}
use Rattle.zeta_model.proofs.ModularLemmas.{same-mod}
use Rattle.linear_model.specs.Rows.{InSpan}
use Rattle.linear_model.proofs.SpanSteps.{same_span_none}
use Rattle.linear_model.proofs.ForwardLists.{in_span_iff}
use Rattle.column_order.specs.Columns.{ColumnList}
use Rattle.word_sums.specs.Terms.{coefficient_of}
use Rattle.echelon.specs.Lists.{row_at, lead_at}
use Rattle.echelon.specs.Offers.{HasNoInverse}
use Rattle.table_model.specs.Conversion.{IsTable, IsTableSum, IsCols}
use Rattle.table_model.specs.ListedSpan.{values_of, count_of}
use Rattle.table_model.proofs.CompleteRows.{listed_value-table}
use Rattle.known_sums.specs.Known.{AddsNothing}
use Rattle.table_build.specs.Inner.{Course, HasOffered}
use Rattle.table_build.proofs.NamedValues.{same_cols}
use Rattle.table_build.proofs.Offerings.{course_table, offered_none}

module _ {E : Type 0} (m : ℕ) (value : E → ℕ) (columns : ColumnList) (course : Course) (n : ℕ) (numbers : List ℕ) (rows : List (List (ℕ × E)))
    (so_far : HasOffered m value columns course n numbers rows) (few : n < count_of columns) (sum : List (List Letter × E))
    (coefficients : (t : List Letter) → coefficient_of value sum t ≡ values_of m columns n t % m) where
  table : IsTable m columns
  table = course_table m value columns course so_far.is_course

  pub table_sum : IsTableSum m columns (coefficient_of value sum)
  table_sum t other = ap (λ x. x % m) (coefficients t) ∙ same-mod m (values_of m columns n t) ∙ listed_value-table m columns table n t other

  pub offered_in_vain : AddsNothing m value columns rows sum → HasOffered m value columns course (suc n) numbers rows
  offered_in_vain nothing =
      let p : ℕ → ℕ = nothing.row in
      let cols : IsCols m columns (values_of m columns n) p =
      same_cols m columns (coefficient_of value sum) (values_of m columns n) p coefficients nothing.is_row in
      let lies : InSpan m (length rows) (row_at value rows) p = nothing.lies p nothing.is_row in
      let fits : (lead : ℕ) → ¬ (HasNoInverse m value rows p lead) = λ lead h.
      let leads = h.leads in
      leads.here ((in_span_iff m (length rows) (lead_at rows) (row_at value rows) (omega (arith, table.modulus)) so_far.list p h.remainder h.is_remainder).0
      lies h.column) in
      offered_none m value columns course n numbers rows so_far few p cols fits lies (same_span_none m (length rows) (row_at value rows) p lies)
