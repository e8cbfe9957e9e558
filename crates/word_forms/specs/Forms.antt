-- The polynomials of the words of a table, as rows over its columns.
use Rattle.std.specs.Prelude.{◌≡◌, ℕ, ◌<◌, Bool, List, [], length, get_or}
use Rattle.zeta_model.specs.declared.Letter.{Letter}
use Rattle.zeta_model.specs.Sums.{single}
use Rattle.sparse_rows.specs.Entries.{IsBelow, AllIn}
use Rattle.lyndon_words.specs.Lyndon.{joined}
use Rattle.column_order.specs.Columns.{ColumnList}
use Rattle.echelon.specs.Lists.{entries_of, lead_at, row_at}
use Rattle.table_model.specs.MonomialWords.{column_at}
use Rattle.table_model.specs.Complete.{IsPolynomial}

-- a ring, and a row over it for each column, which stands for the column's word
pub record RingForms (R E : Type 0) : Type 0 where
  pub ring : R
  pub forms : List (List (ℕ × E))

module _ {E : Type 0} where
  -- a row for each of the columns, of columns below their number
  pub record FitForms (has : E → Bool) (n : ℕ) (forms : List (List (ℕ × E))) : Type 0 where
    pub count : length forms ≡ n
    pub below : (i : ℕ) → i < length forms → IsBelow (λ k. k) n (get_or forms i [])
    pub in_ring : (i : ℕ) → i < length forms → AllIn has (get_or forms i [])

  -- the polynomial of a word, as a row over the columns
  pub record IsFormOf (m : ℕ) (has : E → Bool) (value : E → ℕ) (columns : ColumnList) (rows : List (List (ℕ × E))) (word : List Letter)
      (form : List (ℕ × E)) : Type 0 where
    pub below : IsBelow (λ k. k) (length columns.list) form
    pub in_ring : AllIn has form
    pub polynomial : IsPolynomial m columns (length rows) (lead_at rows) (row_at value rows) (single word) (entries_of value form)

  -- the polynomials of the words of the first n columns
  pub record AreFirstForms (m : ℕ) (has : E → Bool) (value : E → ℕ) (columns : ColumnList) (rows : List (List (ℕ × E))) (n : ℕ)
      (forms : List (List (ℕ × E))) : Type 0 where
    pub count : length forms ≡ n
    pub each : (i : ℕ) → i < n → IsFormOf m has value columns rows (joined (column_at columns.list i)) (get_or forms i [])

  -- the polynomials of the words of all columns
  abbrev pub AreForms : ℕ → (E → Bool) → (E → ℕ) → ColumnList → List (List (ℕ × E)) → List (List (ℕ × E)) → Type 0
  AreForms m has value columns rows forms = AreFirstForms m has value columns rows (length columns.list) forms
