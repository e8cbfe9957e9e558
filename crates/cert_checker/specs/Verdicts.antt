-- Lists of rows and combinations over a table, and what is found of them.
use Rattle.std.specs.Prelude.{ℕ, ◌<◌, Bool, List, [], length, get_or}
use Rattle.sparse_rows.specs.Entries.{IsRow, IsBelow, AllIn}
use Rattle.column_order.specs.Columns.{ColumnList}
use Rattle.echelon.specs.Lists.{row_at, lead_at}
use Rattle.table_model.specs.Faults.{Verdict, IsVerdict}

module _ {E : Type 0} where
  -- each row is of keys that increase and are below a bound, and of elements of the ring that are not zero
  pub record AreWithin (zero : E) (has : E → Bool) (high : ℕ) (rows : List (List (ℕ × E))) : Type 0 where
    pub is_row : (i : ℕ) → i < length rows → IsRow (λ k. k) zero 0 (get_or rows i [])
    pub below : (i : ℕ) → i < length rows → IsBelow (λ k. k) high (get_or rows i [])
    pub in_ring : (i : ℕ) → i < length rows → AllIn has (get_or rows i [])

  -- what is found of rows with their combinations
  abbrev pub IsVerdictOf : ℕ → (E → ℕ) → ColumnList → List (List (ℕ × E)) → List (List (ℕ × E)) → Verdict → Type 0
  IsVerdictOf m value columns rows combinations v =
      IsVerdict m columns (length rows) (lead_at rows) (row_at value rows) (row_at value combinations) v
