-- The rows of a family of sums of words of a table.
use Rattle.std.specs.Prelude.{ℕ, ◌↔◌}
use Rattle.zeta_model.specs.Sums.{Sum}
use Rattle.linear_model.specs.Rows.{InSpan}
use Rattle.column_order.specs.Columns.{ColumnList}
use Rattle.table_model.specs.MonomialWords.{words_of_row}
use Rattle.table_model.specs.Conversion.{IsTable, IsTableSum, Converts, IsOver, IsCols}
use Rattle.table_model.specs.ListedSpan.{InSumSpan}
use Rattle.table_model.proofs.RowWords.{cols_exist, span_of_cols}

module _ (m : ℕ) (columns : ColumnList) (table : IsTable m columns) (sums : ℕ → Sum) (within : (k : ℕ)
    → IsTableSum m columns (sums k)) (converts : Converts m columns) where
  pub row_of : ℕ → ℕ → ℕ
  row_of k = (cols_exist m columns table converts (sums k) (within k)).0

  pub row_of-is : (k : ℕ) → IsCols m columns (sums k) (row_of k)
  unfolding row_of
  row_of-is k = (cols_exist m columns table converts (sums k) (within k)).1

  pub span_of_rows : (n : ℕ) (p : ℕ → ℕ) → IsOver m columns p → InSpan m n row_of p ↔ InSumSpan m n sums (words_of_row columns.list p)
  span_of_rows n = span_of_cols m columns table converts n sums row_of (λ i l. row_of-is i)
