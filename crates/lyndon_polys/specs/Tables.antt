-- Tables, the rows that they answer, and the words that have a row.
use Rattle.std.specs.Prelude.{ℕ, Bool, ◌&&◌, nat_eq, nat_le, List, length}
use Rattle.zeta_model.specs.declared.Letter.{Letter}
use Rattle.zeta_model.specs.Words.{depth_of, is_admissible}
use Rattle.sparse_rows.specs.Entries.{entry_of}
use Rattle.column_order.specs.Columns.{ColumnList}

-- a ring and the columns over it
pub record RingTable (R : Type 0) : Type 0 where
  pub ring : R
  pub columns : ColumnList

module _ {E : Type 0} where
  -- what a row has at each column; value says which residue an element stands for
  abbrev pub entries_of : (E → ℕ) → List (ℕ × E) → ℕ → ℕ
  entries_of value row = entry_of (λ k. k) value row

-- whether t is an admissible word of weight w and depth at most d
abbrev pub is_table_word : ℕ → ℕ → List Letter → Bool
is_table_word w d t = is_admissible t && (nat_eq (length t) w && nat_le (depth_of t) d)
