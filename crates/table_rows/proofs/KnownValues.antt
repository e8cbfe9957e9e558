-- A value that is known to add nothing was taken in already.
use Rattle.std.specs.Prelude.{ℕ, ◌+◌, ◌%◌, Bool, List, length}
use Rattle.std.proofs.Common.{◌∙◌, ap, arith}
use Rattle.zeta_model.specs.declared.Letter.{Letter}
use Rattle.zeta_model.proofs.ModularLemmas.{same-mod}
use Rattle.linear_model.specs.Rows.{InSpan}
use Rattle.word_sums.specs.Terms.{coefficient_of}
use Rattle.echelon.specs.Lists.{row_at}
use Rattle.echelon.specs.States.{Elimination}
use Rattle.lyndon_polys.specs.Tables.{RingTable}
use Rattle.table_model.specs.Conversion.{IsTableSum, IsCols}
use Rattle.table_model.specs.ListedSpan.{values_of}
use Rattle.table_model.proofs.CompleteRows.{listed_value-table}
use Rattle.known_sums.specs.Known.{AddsNothing}
use Rattle.table_rows.specs.Inner.{HasOffered, IsValue}
use Rattle.table_rows.proofs.NamedValues.{same_cols}
use Rattle.table_rows.proofs.OfferedValues.{span_same, unbroken_same}

module _ {R E : Type 0} (m : ℕ) (has : E → Bool) (value : E → ℕ) (table : RingTable R) (n : ℕ) (e : Elimination R E)
    (so_far : HasOffered m value table n e) (sum : List (List Letter × E)) (is : IsValue m has value table.columns (values_of m table.columns n) sum) where
  pub table_sum : IsTableSum m table.columns (coefficient_of value sum)
  table_sum t other =
      ap (λ x. x % m) (is.coefficients t) ∙ same-mod m (values_of m table.columns n t) ∙ listed_value-table m table.columns so_far.is_table n t other

  -- as if it had been offered
  pub offered_in_vain : AddsNothing m value table.columns e.rows sum → HasOffered m value table (n + 1) e
  offered_in_vain nothing =
      let p : ℕ → ℕ = nothing.row in
      let cols : IsCols m table.columns (values_of m table.columns n) p =
      same_cols m table.columns (coefficient_of value sum) (values_of m table.columns n) p is.coefficients nothing.is_row in
      let lies : InSpan m (length e.rows) (row_at value e.rows) p = nothing.lies p nothing.is_row in
      record {
        is_table = so_far.is_table;
        converts = so_far.converts;
        ring = so_far.ring;
        columns = so_far.columns;
        above = omega (arith, so_far.above);
        forward = so_far.forward;
        span = span_same m value table.columns so_far.is_table so_far.converts n e.rows p so_far.span cols lies;
        unbroken = unbroken_same m value table.columns so_far.is_table so_far.converts n e.rows p so_far.span cols so_far.forward so_far.unbroken lies;
      }
