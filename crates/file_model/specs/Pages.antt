-- The pages of the file of parameters, by what their rows are.
use Rattle.std.specs.Prelude.{◌≡◌, ℕ, suc, ◌+◌, ◌-◌, ◌*◌, ◌/◌, ◌%◌, ◌<◌, ◌≤◌, ◌↔◌, min, Some, List, [], ◌∷◌, ◌++◌, length, map, slice_get}
use Rattle.std.specs.List.{Contains}
use Rattle.std.specs.List.Sorted.{IsStrictlySortedBy}
use Rattle.std.specs.Ordering.{nat_cmp}
use Rattle.zeta_model.specs.Sums.{Sum}
use Rattle.linear_model.specs.Rows.{SameRow}
use Rattle.column_order.specs.Columns.{ColumnList}
use Rattle.sparse_rows.specs.Entries.{entry_of, IsRow}
use Rattle.page_codec.specs.declared.params.Params.{Params}
use Rattle.page_codec.specs.declared.parts.ForwardEntry.{ForwardEntry}
use Rattle.page_codec.specs.declared.parts.FinalEntry.{FinalEntry}
use Rattle.page_codec.specs.declared.page.Page.{Page}
use Rattle.page_codec.specs.declared.page.Page.TheVariants.{Header, Forward, Final, Done}
use Rattle.page_codec.specs.Places.{block_count}
use Rattle.table_model.specs.Conversion.{IsTableSum, Converts}
use Rattle.table_model.specs.ListedSpan.{values_of, count_of}
use Rattle.table_model.specs.ReducedRows.{IsReducedRows, IsAccepted, IsForwardRow, IsCombination, IsUnbroken, BreaksFirst}

-- work on a table: the sums that are offered by number, and what is written as the combination of a row, given the one over these sums
pub record Work : Type 0 where
  pub sums : ℕ → Sum
  pub beside : (ℕ → ℕ) → ℕ → ℕ

-- the values of the listed relations are offered, and their combinations are written
abbrev pub listed_work : ℕ → ColumnList → Work
listed_work m columns = record { sums = values_of m columns; beside = λ c. c }

-- the sums have words of the table alone; combinations that agree modulo m are written alike, and a sum of two as the sum of both
pub record IsWork (m : ℕ) (columns : ColumnList) (work : Work) : Type 0 where
  pub sums : (n : ℕ) → IsTableSum m columns (work.sums n)
  pub beside : (c d : ℕ → ℕ) → SameRow m c d → SameRow m (work.beside c) (work.beside d)
  pub linear : (a b : ℕ) (c d : ℕ → ℕ) → SameRow m (work.beside (λ k. a * c k + b * d k)) (λ j. a * work.beside c j + b * work.beside d j)

-- columns or numbers of relations, each with its residue
abbrev pub Pairs : Type 0
Pairs = List (ℕ × ℕ)

-- the residue of pairs at a number, and 0 where no pair has it
abbrev pub pairs_of : Pairs → ℕ → ℕ
pairs_of pairs = entry_of (λ k. k) (λ v. v) pairs

-- the residues of p that are not zero, by increasing number
pub record IsPairs (m : ℕ) (p : ℕ → ℕ) (pairs : Pairs) : Type 0 where
  pub row : IsRow (λ k. k) 0 0 pairs
  pub residues : (q : ℕ) → p q % m ≡ pairs_of pairs q

-- the pairs are those of p and of its combination over accepted numbers below n
pub record IsWritten (m : ℕ) (columns : ColumnList) (work : Work) (n : ℕ) (p : ℕ → ℕ) (row combination : Pairs) : Type 0 where
  pub is_row : IsPairs m p row
  pub coefficients : ℕ → ℕ
  pub is_combination : IsCombination m columns work.sums n p coefficients
  pub is_written : IsPairs m (work.beside coefficients) combination

-- g is what is written as the combination of p over accepted numbers below n
pub record IsRecorded (m : ℕ) (columns : ColumnList) (work : Work) (n : ℕ) (p g : ℕ → ℕ) : Type 0 where
  pub coefficients : ℕ → ℕ
  pub is_combination : IsCombination m columns work.sums n p coefficients
  pub written : SameRow m (work.beside coefficients) g

abbrev pub numbers_of : List ForwardEntry → List ℕ
numbers_of entries = map (λ (e : ForwardEntry). e.number) entries

-- a page of forward rows, whose numbers are from first on
abbrev pub forward_page : ℕ → List ForwardEntry → Page
forward_page first entries = Forward (record { first = first; entries = entries })

-- a page of final rows, of which the first stands at place first
abbrev pub final_page : ℕ → List FinalEntry → Page
final_page first entries = Final (record { first = first; entries = entries })

-- forward page b has the accepted numbers of its block of 64, increasing, with their forward rows
pub record IsForwardBlock (m : ℕ) (columns : ColumnList) (work : Work) (b : ℕ) (entries : List ForwardEntry) : Type 0 where
  pub increasing : IsStrictlySortedBy nat_cmp (numbers_of entries)
  pub whole : (n : ℕ) → Contains (numbers_of entries) n
      ↔ (IsAccepted m columns work.sums n × (64 * b ≤ n) × (n < 64 * b + 64) × (n < count_of columns))
  pub rows : (i : ℕ) (e : ForwardEntry) → slice_get entries i ≡ Some e → (p : ℕ → ℕ) → IsForwardRow m columns work.sums e.number p
      → IsWritten m columns work (suc e.number) p e.row e.combination

-- final page i has the rows from 64 i on, at most 64 of them
pub record IsFinalBlock (m : ℕ) (columns : ColumnList) (work : Work) (count : ℕ) (rows : ℕ → ℕ → ℕ) (i : ℕ) (entries : List FinalEntry) : Type 0 where
  pub as_many : length entries ≡ min 64 (count - 64 * i)
  pub rows_are : (j : ℕ) (e : FinalEntry) → slice_get entries j ≡ Some e
      → IsWritten m columns work (count_of columns) (rows (64 * i + j)) e.row e.combination

-- the first n forward pages
pub record AreForwardPages (m : ℕ) (columns : ColumnList) (work : Work) (n : ℕ) (pages : List Page) : Type 0 where
  pub as_many : length pages ≡ n
  pub each : (b : ℕ) → b < n → (entries : List ForwardEntry) × (slice_get pages b ≡ Some (forward_page (64 * b) entries))
      × IsForwardBlock m columns work b entries

-- the final pages of the rows
pub record AreFinalPages (m : ℕ) (columns : ColumnList) (work : Work) (count : ℕ) (rows : ℕ → ℕ → ℕ) (pages : List Page) : Type 0 where
  pub as_many : length pages ≡ block_count count
  pub each : (i : ℕ) → i < length pages → (entries : List FinalEntry) × (slice_get pages i ≡ Some (final_page (64 * i) entries))
      × IsFinalBlock m columns work count rows i entries

-- the pages of the work: none where the table does not convert; the header and the forward pages of the whole blocks below n where the work
-- breaks first at n; else the header, the forward pages, the final pages, and the last one
pub data ArePages (params : Params) (columns : ColumnList) (work : Work) (pages : List Page) : Type 0 where
  none : ¬ (Converts params.modulus columns) → pages ≡ [] → ArePages params columns work pages
  begun : Converts params.modulus columns → (n residue : ℕ) → n < count_of columns → BreaksFirst params.modulus columns work.sums n residue
      → (forward : List Page) → AreForwardPages params.modulus columns work (n / 64) forward → pages ≡ Header params ∷ forward
      → ArePages params columns work pages
  whole : Converts params.modulus columns → IsUnbroken params.modulus columns work.sums (count_of columns)
      → (count : ℕ) (lead : ℕ → ℕ) (rows : ℕ → ℕ → ℕ) → IsReducedRows params.modulus columns work.sums (count_of columns) count lead rows
      → (forward final : List Page) → AreForwardPages params.modulus columns work (block_count (count_of columns)) forward
      → AreFinalPages params.modulus columns work count rows final
      → pages ≡ Header params ∷ (forward ++ (final ++ Done count ∷ [])) → ArePages params columns work pages
