-- What single steps of the code keep. No public clause cites this, so a reader need not believe it.
use Rattle.std.specs.Prelude.{◌≡◌, ℕ, ◌%◌, ◌<◌, ◌≤◌, Bool, List, length, All}
use Rattle.std.specs.Map.{keys_of}
use Rattle.zeta_model.specs.declared.Letter.{Letter}
use Rattle.zeta_model.specs.Sums.{Sum}
use Rattle.linear_model.specs.Rows.{SameSpan}
use Rattle.word_sums.specs.Terms.{coefficient_of, AllIn as AllTermsIn}
use Rattle.column_order.specs.Columns.{ColumnList}
use Rattle.echelon.specs.Lists.{row_at, AreForward}
use Rattle.echelon.specs.States.{Elimination}
use Rattle.lyndon_polys.specs.Tables.{RingTable}
use Rattle.table_model.specs.Conversion.{IsTable, IsTableWord, Converts, IsCols}
use Rattle.table_model.specs.ListedSpan.{values_of}
use Rattle.table_model.specs.ReducedRows.{IsUnbroken}
use Rattle.known_sums.specs.declared.known_sums.KnownSums.{KnownSums}
use Rattle.known_sums.specs.Known.{Knows}

-- the rows kept have the span of the rows of the first n values, whichever rows these have
abbrev pub SpanFirst : {E : Type 0} → ℕ → (E → ℕ) → ColumnList → ℕ → List (List (ℕ × E)) → Type 0
SpanFirst m value columns n kept =
    (cols : ℕ → ℕ → ℕ) → ((i : ℕ) → i < n → IsCols m columns (values_of m columns i) (cols i)) → SameSpan m (length kept) (row_at value kept) n cols

-- the first n values were offered to the elimination, and the work is broken at none of them
pub record HasOffered {R E : Type 0} (m : ℕ) (value : E → ℕ) (table : RingTable R) (n : ℕ) (e : Elimination R E) : Type 0 where
  pub is_table : IsTable m table.columns
  pub converts : Converts m table.columns
  pub ring : e.ring ≡ table.ring
  pub columns : e.columns ≡ length table.columns.list
  pub above : e.above ≤ n
  pub forward : AreForward m value e.rows
  pub span : SpanFirst m value table.columns n e.rows
  pub unbroken : IsUnbroken m table.columns (values_of m table.columns) n

-- the sum of words is s, and has words of the table alone
pub record IsValue {E : Type 0} (m : ℕ) (has : E → Bool) (value : E → ℕ) (columns : ColumnList) (s : Sum) (sum : List (List Letter × E)) : Type 0 where
  pub in_ring : AllTermsIn has sum
  pub words : All (IsTableWord columns.weight columns.depth) (keys_of sum)
  pub coefficients : (t : List Letter) → coefficient_of value sum t ≡ s t % m

-- the first n values were taken in, and what is known is known of the rows kept
pub record HasTaken {R E A : Type 0} (m : ℕ) (has : E → Bool) (value : E → ℕ) (table : RingTable R) (n : ℕ) (e : Elimination R E) (made : KnownSums R E A)
    : Type 0 where
  pub offered : HasOffered m value table n e
  pub known : Knows m has value table e.rows made
