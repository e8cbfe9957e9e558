-- The first word at which a table does not convert, and the first test that rows of a file fail.
use Rattle.std.specs.Prelude.{◌≡◌, ℕ, suc, ◌%◌, ◌<◌, List}
use Rattle.zeta_model.specs.declared.Letter.{Letter}
use Rattle.zeta_model.specs.Modular.{Same}
use Rattle.linear_model.specs.Rows.{SameRow}
use Rattle.linear_model.specs.Reduced.{IsReduced}
use Rattle.lyndon_words.specs.Lyndon.{IsBefore, IsFactors}
use Rattle.column_order.specs.Columns.{ColumnList}
use Rattle.table_model.specs.MonomialWords.{words_of_monomial}
use Rattle.zeta_model.specs.Inverses.{HasInverse}
use Rattle.table_model.specs.Conversion.{IsTableWord, ConvertsAt, Converts}
use Rattle.table_model.specs.ListedSpan.{values_of, count_of}
use Rattle.table_model.specs.Complete.{Evaluates, IsPolynomial, IsComplete}

-- u is a word of the table, and it converts at each word of the table before u
pub record IsReached (m : ℕ) (columns : ColumnList) (u : List Letter) : Type 0 where
  pub word : IsTableWord columns.weight columns.depth u
  pub earlier : (t : List Letter) → IsTableWord columns.weight columns.depth t → IsBefore t u → ConvertsAt m t

-- u is the first word at which the table does not convert: its coefficient is the residue, which has no inverse
pub record IsNotInvertible (m : ℕ) (columns : ColumnList) (u : List Letter) (residue : ℕ) : Type 0 where
  pub reached : IsReached m columns u
  pub factors : List (List Letter)
  pub are_factors : IsFactors u factors
  pub told : words_of_monomial factors u % m ≡ residue
  pub none : ¬ (HasInverse m residue)

-- row i fits a reduced list: it begins with 1 at its lead, behind the lead before, where every other row is zero
pub record IsReducedAt (m count : ℕ) (lead : ℕ → ℕ) (rows : ℕ → ℕ → ℕ) (i : ℕ) : Type 0 where
  pub one : Same m (rows i (lead i)) 1
  pub before : (j : ℕ) → j < lead i → Same m (rows i j) 0
  pub rises : (k : ℕ) → suc k ≡ i → lead k < lead i
  pub clear : (k : ℕ) → k < count → ¬ (k ≡ i) → Same m (rows k (lead i)) 0

-- place i is the first of n places that does not have the property
pub record IsFirstWithout (has : ℕ → Type 0) (n i : ℕ) : Type 0 where
  pub below : i < n
  pub lacks : ¬ (has i)
  pub earlier : (k : ℕ) → k < i → has k

-- the rows leave nothing of relation n
abbrev pub LeavesNothing : ℕ → ColumnList → ℕ → (ℕ → ℕ) → (ℕ → ℕ → ℕ) → ℕ → Type 0
LeavesNothing m columns count lead rows n = (q : ℕ → ℕ) → IsPolynomial m columns count lead rows (values_of m columns n) q → SameRow m q (λ _. 0)

-- what is found of the final rows of a file; the rest of a missing relation is told in residues below m
pub data Verdict : Type 0 where
  Whole : Verdict
  NoInverse : List Letter → ℕ → Verdict
  BadRow : ℕ → Verdict
  NotReduced : ℕ → Verdict
  Missing : ℕ → (ℕ → ℕ) → Verdict

-- every row is what its combination gives
abbrev pub AllEvaluate : ℕ → ColumnList → ℕ → (ℕ → ℕ → ℕ) → (ℕ → ℕ → ℕ) → Type 0
AllEvaluate m columns count rows combinations = (i : ℕ) → i < count → Evaluates m columns (rows i) (combinations i)

-- the rows are complete, or the verdict names the first test that they fail
abbrev pub IsVerdict : ℕ → ColumnList → ℕ → (ℕ → ℕ) → (ℕ → ℕ → ℕ) → (ℕ → ℕ → ℕ) → Verdict → Type 0
IsVerdict m columns count lead rows combinations Whole = IsComplete m columns count lead rows combinations
IsVerdict m columns count lead rows combinations (NoInverse u residue) = IsNotInvertible m columns u residue
IsVerdict m columns count lead rows combinations (BadRow i) =
    Converts m columns × IsFirstWithout (λ k. Evaluates m columns (rows k) (combinations k)) count i
IsVerdict m columns count lead rows combinations (NotReduced i) =
    Converts m columns × AllEvaluate m columns count rows combinations × IsFirstWithout (IsReducedAt m count lead rows) count i
IsVerdict m columns count lead rows combinations (Missing n rest) =
    Converts m columns × AllEvaluate m columns count rows combinations × IsReduced m count lead rows
    × IsFirstWithout (LeavesNothing m columns count lead rows) (count_of columns) n × IsPolynomial m columns count lead rows (values_of m columns n) rest
    × ((col : ℕ) → rest col < m)
