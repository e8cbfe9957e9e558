-- Rows that were found complete, and the monomials at whose columns they lead.
use Rattle.std.specs.Prelude.{ℕ, List, length}
use Rattle.zeta_model.specs.declared.Letter.{Letter}
use Rattle.column_order.specs.Columns.{ColumnList}
use Rattle.echelon.specs.Lists.{row_at, lead_at}
use Rattle.table_model.specs.MonomialWords.{column_at}
use Rattle.table_model.specs.Complete.{IsComplete}

module _ {E : Type 0} where
  -- the rows are complete, each with some combination of listed relations
  pub record AreCompleteRows (m : ℕ) (value : E → ℕ) (columns : ColumnList) (rows : List (List (ℕ × E))) : Type 0 where
    pub combinations : ℕ → ℕ → ℕ
    pub complete : IsComplete m columns (length rows) (lead_at rows) (row_at value rows) combinations

  -- the monomial of the column at which row i leads
  abbrev pub leading_monomial : ColumnList → List (List (ℕ × E)) → ℕ → List (List Letter)
  leading_monomial columns rows i = column_at columns.list (lead_at rows i)
