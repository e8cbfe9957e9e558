-- Rows over the columns of a weight and a depth for sums of words of that weight and depth, modulo m.
use Rattle.std.specs.Prelude.{◌≡◌, ℕ, ◌<◌, ◌≤◌, IsTrue, List, length}
use Rattle.zeta_model.specs.declared.Letter.{Letter}
use Rattle.zeta_model.specs.Modular.{Same}
use Rattle.zeta_model.specs.Words.{depth_of, is_admissible}
use Rattle.zeta_model.specs.Sums.{Sum, SameSum}
use Rattle.lyndon_words.specs.Lyndon.{IsFactors}
use Rattle.column_order.specs.Columns.{ColumnList, IsColumns, HasLimits}
use Rattle.zeta_model.specs.Inverses.{HasInverse}
use Rattle.table_model.specs.MonomialWords.{words_of_monomial, words_of_row}

-- m and the columns are the modulus and the columns of a table
pub record IsTable (m : ℕ) (columns : ColumnList) : Type 0 where
  pub modulus : 2 < m
  pub limits : HasLimits columns.weight columns.depth
  pub whole : IsColumns columns

-- an admissible word of weight w and depth at most d
pub record IsTableWord (w d : ℕ) (t : List Letter) : Type 0 where
  pub admissible : IsTrue (is_admissible t)
  pub weight : length t ≡ w
  pub depth : depth_of t ≤ d

-- a sum of admissible words of weight w and depth at most d: no other word has a coefficient
abbrev pub IsTableSum : ℕ → ColumnList → Sum → Type 0
IsTableSum m columns s = (t : List Letter) → ¬ (IsTableWord columns.weight columns.depth t) → Same m (s t) 0

-- the coefficient of u in the shuffle of its Lyndon factors has an inverse
abbrev pub ConvertsAt : ℕ → List Letter → Type 0
ConvertsAt m u = (p : List (List Letter)) → IsFactors u p → HasInverse m (words_of_monomial p u)

-- so it is for each word of the table
abbrev pub Converts : ℕ → ColumnList → Type 0
Converts m columns = (u : List Letter) → IsTableWord columns.weight columns.depth u → ConvertsAt m u

-- the row is zero behind the last column
abbrev pub IsOver : ℕ → ColumnList → (ℕ → ℕ) → Type 0
IsOver m columns p = (col : ℕ) → length columns.list ≤ col → Same m (p col) 0

-- p is a row over the columns whose words are s: cols(s) is the only one
pub record IsCols (m : ℕ) (columns : ColumnList) (s : Sum) (p : ℕ → ℕ) : Type 0 where
  pub over : IsOver m columns p
  pub words : SameSum m (words_of_row columns.list p) s
