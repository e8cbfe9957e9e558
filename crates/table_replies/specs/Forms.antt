-- Replies by rows that stand for the words of a table.
use Rattle.std.specs.Prelude.{ℕ, ◌%◌, List}
use Rattle.column_order.specs.Columns.{ColumnList}
use Rattle.table_model.specs.Computed.{cols_by}
use Rattle.zeta_expr.specs.LineMeaning.{LineMeaning, means, refused}
use Rattle.zeta_expr.proofs.OneMeaning.{some_meaning}
use Rattle.poly_print.specs.Polynomials.{residues_text}
use Rattle.table_rewrite.specs.Replies.{fault_text}

-- a ring, columns, and a row for each column, which stands for the column's word
pub record WordForms (R E : Type 0) : Type 0 where
  pub ring : R
  pub columns : ColumnList
  pub forms : List (List (ℕ × E))

-- the text of the sum of the rows, each times the coefficient of its word, or of the refusal
abbrev pub answer_by : ℕ → ColumnList → (ℕ → ℕ → ℕ) → LineMeaning → List ℕ
answer_by m columns forms (means s) = residues_text columns.list (λ col. cols_by columns.list forms s col % m)
answer_by m columns forms (refused fault) = fault_text fault

-- so the meaning of a line is answered
abbrev pub reply_by : ℕ → ColumnList → (ℕ → ℕ → ℕ) → List ℕ → List ℕ
reply_by m columns forms line = answer_by m columns forms (some_meaning m columns.weight columns.depth line).0
