-- Lists of rows: what a row of the list has at a column, and where it leads.
use Rattle.std.specs.Prelude.{ℕ, ◌<◌, Bool, List, [], ◌∷◌, length, get_or}
use Rattle.linear_model.specs.Reduced.{IsReduced}
use Rattle.linear_model.specs.Forward.{IsForward}
use Rattle.sparse_rows.specs.Entries.{entry_of, IsRow, IsBelow, AllIn}

module _ {E : Type 0} where
  -- what a row has at each number; value says which residue an element stands for
  abbrev pub entries_of : (E → ℕ) → List (ℕ × E) → ℕ → ℕ
  entries_of value row = entry_of (λ k. k) value row

  -- the first number of a row, and 0 for the row without pairs
  abbrev pub lead_of : List (ℕ × E) → ℕ
  lead_of [] = 0
  lead_of (e ∷ es) = e.0

  -- what row i of the list has at each number, and 0 past the end of the list
  abbrev pub row_at : (E → ℕ) → List (List (ℕ × E)) → ℕ → ℕ → ℕ
  row_at value rows i = entries_of value (get_or rows i [])

  -- the lead of row i
  abbrev pub lead_at : List (List (ℕ × E)) → ℕ → ℕ
  lead_at rows i = lead_of (get_or rows i [])

  -- a row that is not zero, of columns below columns and elements of the ring
  pub record FitsColumns (has : E → Bool) (zero : E) (columns : ℕ) (row : List (ℕ × E)) : Type 0 where
    pub some : 0 < length row
    pub is_row : IsRow (λ k. k) zero 0 row
    pub below : IsBelow (λ k. k) columns row
    pub in_ring : AllIn has row

  -- so is each row of the list
  abbrev pub AllFit : (E → Bool) → E → ℕ → List (List (ℕ × E)) → Type 0
  AllFit has zero columns rows = (i : ℕ) → i < length rows → FitsColumns has zero columns (get_or rows i [])

  -- the rows are a forward list modulo m
  abbrev pub AreForward : ℕ → (E → ℕ) → List (List (ℕ × E)) → Type 0
  AreForward m value rows = IsForward m (length rows) (lead_at rows) (row_at value rows)

  -- the rows are a reduced list modulo m
  abbrev pub AreReduced : ℕ → (E → ℕ) → List (List (ℕ × E)) → Type 0
  AreReduced m value rows = IsReduced m (length rows) (lead_at rows) (row_at value rows)
