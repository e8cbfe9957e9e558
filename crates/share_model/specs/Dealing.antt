-- Shares of a listing, and what a result of a share is: the rows of its relations alone.
use Rattle.std.specs.Prelude.{◌≡◌, ℕ, ◌+◌, ◌-◌, ◌*◌, ◌/◌, ◌%◌, ◌<◌}
use Rattle.zeta_model.specs.Sums.{Sum}
use Rattle.linear_model.specs.Reduced.{IsReduced}
use Rattle.column_order.specs.Columns.{ColumnList}
use Rattle.table_model.specs.Conversion.{IsOver}
use Rattle.table_model.specs.ListedSpan.{values_of, count_of}
use Rattle.table_model.specs.Complete.{Evaluates, IsPolynomial}
use Rattle.table_model.specs.Faults.{IsReducedAt, IsFirstWithout, LeavesNothing, Verdict}
use Rattle.table_model.specs.Faults.Verdict.{Whole, NoInverse, BadRow, NotReduced, Missing}

-- relation n is in share index of so many shares: these deal the numbers of the listing out in turn
abbrev pub InShare : ℕ → ℕ → ℕ → Type 0
InShare index shares n = n % shares ≡ index

-- the values of the relations of the share, in the order of their numbers
abbrev pub share_values : ℕ → ColumnList → ℕ → ℕ → ℕ → Sum
share_values m columns index shares k = values_of m columns (index + shares * k)

-- how many relations the share has
abbrev pub share_size : ColumnList → ℕ → ℕ → ℕ
share_size columns index shares = (count_of columns + (shares - 1 - index)) / shares

-- the combination has numbers of the share alone
abbrev pub IsWithinShare : ℕ → ℕ → (ℕ → ℕ) → Type 0
IsWithinShare index shares combination = (n : ℕ) → ¬ (InShare index shares n) → combination n ≡ 0

-- the row is what its combination gives, and that has numbers of the share alone
pub record IsRowOfShare (m : ℕ) (columns : ColumnList) (index shares : ℕ) (row combination : ℕ → ℕ) : Type 0 where
  pub evaluates : Evaluates m columns row combination
  pub within : IsWithinShare index shares combination

-- so is each row
abbrev pub AllOfShare : ℕ → ColumnList → ℕ → ℕ → ℕ → (ℕ → ℕ → ℕ) → (ℕ → ℕ → ℕ) → Type 0
AllOfShare m columns index shares count rows combinations = (i : ℕ) → i < count → IsRowOfShare m columns index shares (rows i) (combinations i)

-- the rows leave nothing of relation n, where it is in the share
abbrev pub LeavesNothingOfShare : ℕ → ColumnList → ℕ → ℕ → ℕ → (ℕ → ℕ) → (ℕ → ℕ → ℕ) → ℕ → Type 0
LeavesNothingOfShare m columns index shares count lead rows n = InShare index shares n → LeavesNothing m columns count lead rows n

-- a result of the share: the rows are reduced, each is what its combination of relations of the share gives, and they leave nothing of any
-- relation of the share
pub record IsShareResult (m : ℕ) (columns : ColumnList) (index shares count : ℕ) (lead : ℕ → ℕ) (rows combinations : ℕ → ℕ → ℕ) : Type 0 where
  pub reduced : IsReduced m count lead rows
  pub over : (i : ℕ) → i < count → IsOver m columns (rows i)
  pub all : AllOfShare m columns index shares count rows combinations
  pub nothing_missing : (n : ℕ) → n < count_of columns → LeavesNothingOfShare m columns index shares count lead rows n

-- the rows are a result of the share, or the verdict names the first test that they fail; the table converts, so that it names no word
abbrev pub IsShareVerdict : ℕ → ColumnList → ℕ → ℕ → ℕ → (ℕ → ℕ) → (ℕ → ℕ → ℕ) → (ℕ → ℕ → ℕ) → Verdict → Type 0
IsShareVerdict m columns index shares count lead rows combinations Whole = IsShareResult m columns index shares count lead rows combinations
IsShareVerdict m columns index shares count lead rows combinations (NoInverse u residue) = ⊥
IsShareVerdict m columns index shares count lead rows combinations (BadRow i) =
    IsFirstWithout (λ k. IsRowOfShare m columns index shares (rows k) (combinations k)) count i
IsShareVerdict m columns index shares count lead rows combinations (NotReduced i) =
    AllOfShare m columns index shares count rows combinations × IsFirstWithout (IsReducedAt m count lead rows) count i
IsShareVerdict m columns index shares count lead rows combinations (Missing n rest) =
    AllOfShare m columns index shares count rows combinations × IsReduced m count lead rows
    × IsFirstWithout (LeavesNothingOfShare m columns index shares count lead rows) (count_of columns) n
    × IsPolynomial m columns count lead rows (values_of m columns n) rest × ((col : ℕ) → rest col < m)
