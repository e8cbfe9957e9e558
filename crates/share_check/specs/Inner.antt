-- What single steps of the code answer. No public clause cites these, so a reader need not believe them.
use Rattle.std.specs.Prelude.{◌≡◌, ℕ, ◌<◌, Bool, List, [], length, map, get_or, min, Option, Some, None}
use Rattle.std.specs.List.{All}
use Rattle.sparse_rows.specs.Entries.{IsRow, IsBelow, AllIn}
use Rattle.column_order.specs.Columns.{ColumnList}
use Rattle.page_codec.specs.declared.parts.FinalEntry.{FinalEntry}
use Rattle.page_rows.specs.Written.{written, AreResidues}
use Rattle.table_model.specs.ListedSpan.{values_of, count_of}
use Rattle.table_model.specs.Complete.{IsPolynomial}
use Rattle.table_model.specs.Faults.{IsFirstWithout}
use Rattle.cert_checker.specs.Certified.{residues_at}
use Rattle.share_model.specs.Dealing.{InShare, LeavesNothingOfShare}

-- the rows of entries, as pages hold them
abbrev pub rows_of : List FinalEntry → List (List (ℕ × ℕ))
rows_of entries = map (λ (e : FinalEntry). e.row) entries

-- the combinations of entries, as pages hold them
abbrev pub combinations_of : List FinalEntry → List (List (ℕ × ℕ))
combinations_of entries = map (λ (e : FinalEntry). e.combination) entries

-- the lesser of two places, where both are there
abbrev pub lesser : Option ℕ → Option ℕ → Option ℕ
lesser None b = b
lesser (Some i) None = Some i
lesser (Some i) (Some j) = Some (min i j)

module _ {E : Type 0} where
  -- the numbers of a combination are all in the share
  abbrev pub AreOfShare : ℕ → ℕ → List (ℕ × E) → Type 0
  AreOfShare index shares combination = All (λ e. InShare index shares e.0) combination

  -- rows of elements of the ring that are not zero, of which pages hold these lists
  pub record AreRead (zero : E) (has : E → Bool) (value : E → ℕ) (lists : List (List (ℕ × ℕ))) (rows : List (List (ℕ × E))) : Type 0 where
    pub are_written : map (written value) rows ≡ lists
    pub is_row : (i : ℕ) → i < length rows → IsRow (λ k. k) zero 0 (get_or rows i [])
    pub in_ring : (i : ℕ) → i < length rows → AllIn has (get_or rows i [])

-- relation n is the first of the share of which the rows leave something, and these are the columns and residues of what they leave
pub record IsTold (m : ℕ) (columns : ColumnList) (index shares count : ℕ) (lead : ℕ → ℕ) (rows : ℕ → ℕ → ℕ) (n : ℕ) (rest : List (ℕ × ℕ)) : Type 0 where
  pub first : IsFirstWithout (LeavesNothingOfShare m columns index shares count lead rows) (count_of columns) n
  pub polynomial : IsPolynomial m columns count lead rows (values_of m columns n) (residues_at rest)
  pub small : (col : ℕ) → residues_at rest col < m
  pub residues : AreResidues (λ k. k) m rest
  pub below : IsBelow (λ k. k) (length columns.list) rest
