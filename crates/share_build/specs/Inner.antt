-- What single steps of the code keep. No public clause cites this, so a reader need not believe it.
use Rattle.std.specs.Prelude.{◌≡◌, ◌≢◌, ℕ, ◌+◌, ◌*◌, ◌<◌, ◌≤◌, Bool, List, [], length, get_or, slice_get, Some}
use Rattle.zeta_model.specs.Modular.{Same}
use Rattle.zeta_model.specs.Sums.{Sum}
use Rattle.linear_model.specs.Rows.{SameSpan}
use Rattle.sparse_rows.specs.Entries.{IsRow}
use Rattle.column_order.specs.Columns.{ColumnList}
use Rattle.echelon.specs.Lists.{entries_of, row_at}
use Rattle.echelon.specs.States.{Recorded, IsElimination, IsRowList}
use Rattle.echelon.specs.Offers.{IsValueOf}
use Rattle.echelon.specs.Finishes.{SameSpanOf, AreRecorded}
use Rattle.lyndon_polys.specs.Tables.{RingTable}
use Rattle.lyndon_polys.specs.declared.fault.LyndonFault.{LyndonFault}
use Rattle.lyndon_polys.specs.declared.fault.LyndonFault.TheVariants as table
use Rattle.page_codec.specs.declared.parts.FinalEntry.{FinalEntry}
use Rattle.page_rows.specs.Written.{written}
use Rattle.table_model.specs.Conversion.{IsTable, Converts, IsCols}
use Rattle.table_model.specs.ListedSpan.{values_of, count_of}
use Rattle.table_model.specs.ReducedRows.{IsUnbroken}
use Rattle.share_model.specs.declared.fault.ShareFault.{ShareFault}
use Rattle.share_model.specs.declared.fault.ShareFault.TheVariants.{NoInverseWord, NoInverseRelation, BadRow, NotReduced, Missing, Memory}
use Rattle.share_model.specs.Dealing.{share_values}

-- why the share is not made, where the table is not
abbrev pub table_fault : LyndonFault → ShareFault
table_fault (table.NoInverse value word) = NoInverseWord value word
table_fault (table.Memory fault) = Memory fault

-- the rows kept have the span of the rows of the first k sums, whichever rows these have
abbrev pub SpanFirst : {E : Type 0} → ℕ → (E → ℕ) → ColumnList → (ℕ → Sum) → ℕ → List (List (ℕ × E)) → Type 0
SpanFirst m value columns sums k kept =
    (cols : ℕ → ℕ → ℕ) → ((i : ℕ) → i < k → IsCols m columns (sums i) (cols i)) → SameSpan m (length kept) (row_at value kept) k cols

-- q is none of the numbers
abbrev pub IsNoNumber : List ℕ → ℕ → Type 0
IsNoNumber numbers q = (i : ℕ) → i < length numbers → get_or numbers i 0 ≢ q

-- the combination has none but these numbers, and the row is its value, whichever rows the listed relations have
pub record IsCombinedOf {E : Type 0} (m : ℕ) (value : E → ℕ) (columns : ColumnList) (numbers : List ℕ) (row combination : List (ℕ × E)) : Type 0 where
  pub named : (q : ℕ) → IsNoNumber numbers q → Same m (entries_of value combination q) 0
  pub evaluates : (relations : ℕ → ℕ → ℕ) → ((n : ℕ) → n < count_of columns → IsCols m columns (values_of m columns n) (relations n))
      → IsValueOf m value (count_of columns) relations combination (entries_of value row)

-- the first k relations of the share were offered to the elimination, and the work is broken at none of them
pub record HasOffered {R E : Type 0} (m : ℕ) (has : E → Bool) (value : E → ℕ) (zero : E) (table : RingTable R) (index shares k : ℕ) (e : Recorded R E)
    : Type 0 where
  pub is_table : IsTable m table.columns
  pub converts : Converts m table.columns
  pub ring : e.core.ring ≡ table.ring
  pub columns : e.core.columns ≡ length table.columns.list
  pub above : e.core.above ≤ index + shares * k
  pub elimination : IsElimination m has value zero e.core.columns e.core.above e.core.numbers e.core.rows
  pub count : length e.combinations ≡ length e.core.rows
  pub of_share : (i : ℕ) → i < length e.core.numbers → (j : ℕ) × (j < k) × (get_or e.core.numbers i 0 ≡ index + shares * j)
  pub span : SpanFirst m value table.columns (share_values m table.columns index shares) k e.core.rows
  pub unbroken : IsUnbroken m table.columns (share_values m table.columns index shares) k
  pub combined : (i : ℕ) → i < length e.core.rows
      → IsCombinedOf m value table.columns e.core.numbers (get_or e.core.rows i []) (get_or e.combinations i [])

-- a refusal of the work: where it breaks, or want of memory
abbrev pub HasCause : (ℕ → ℕ → Type 0) → ShareFault → Type 0
HasCause breaks (NoInverseWord value word) = ⊥
HasCause breaks (NoInverseRelation value n) = breaks value n
HasCause breaks (BadRow i) = ⊥
HasCause breaks (NotReduced i) = ⊥
HasCause breaks (Missing n rest) = ⊥
HasCause breaks (Memory fault) = Unit {0}

-- the entry has the pairs of the row and of the combination
pub record IsFinalEntryOf {E : Type 0} (zero : E) (value : E → ℕ) (row combination : List (ℕ × E)) (e : FinalEntry) : Type 0 where
  pub row_is : e.row ≡ written value row
  pub combination_is : e.combination ≡ written value combination
  pub is_combination : IsRow (λ k. k) zero 0 combination

-- an entry for each row with its combination
pub record AreWritten {E : Type 0} (zero : E) (value : E → ℕ) (rows combinations : List (List (ℕ × E))) (entries : List FinalEntry) : Type 0 where
  pub count : length entries ≡ length rows
  pub each : (i : ℕ) (e : FinalEntry) → slice_get entries i ≡ Some e
      → IsFinalEntryOf zero value (get_or rows i []) (get_or combinations i []) e

-- the entries are the reduced list of the rows kept, each row with the same sum of combinations
pub record IsFinish {E : Type 0} (m : ℕ) (has : E → Bool) (value : E → ℕ) (zero : E) (columns : ℕ) (kept kept_combinations : List (List (ℕ × E)))
    (entries : List FinalEntry) : Type 0 where
  pub rows : List (List (ℕ × E))
  pub combinations : List (List (ℕ × E))
  pub is_list : IsRowList m has value zero columns rows
  pub span : SameSpanOf m value kept rows
  pub recorded : AreRecorded m has value kept kept_combinations rows combinations
  pub written : AreWritten zero value rows combinations entries
