-- Replies with fractions by rows that stand for the words of a table.
use Rattle.std.specs.Prelude.{◌≤◌, ◌<◌, ◌⊎◌, ℕ, ◌%◌, List, length}
use Rattle.std.proofs.Common.{inl, inr}
use Rattle.std.proofs.lemmas.Bool.{cases_lt}
use Rattle.column_order.specs.Columns.{ColumnList}
use Rattle.table_model.specs.Computed.{cols_by}
use Rattle.zeta_expr.specs.LineMeaning.{LineMeaning, means, refused}
use Rattle.zeta_expr.proofs.OneMeaning.{some_meaning}
use Rattle.poly_print.specs.Polynomials.{pairs_from}
use Rattle.fraction_print.specs.FractionTexts.{Coefficient, fractions_text}
use Rattle.fraction_print.specs.FractionTexts.Coefficient.{Residue}
use Rattle.fraction_print.proofs.SomeFractions.{some_coefficients}
use Rattle.table_rewrite.specs.Replies.{fault_text}

-- a ring, columns, and a row for each column, which stands for the column's word
pub record FractionForms (R E : Type 0) : Type 0 where
  pub ring : R
  pub columns : ColumnList
  pub forms : List (List (ℕ × E))

abbrev pub coefficient_at : (m : ℕ) → (m < 3) ⊎ (3 ≤ m) → ℕ → Coefficient
coefficient_at m (inl few) c = Residue c
coefficient_at m (inr from) c = (some_coefficients m from).0 c

-- what is printed for each residue
abbrev pub coefficients : ℕ → ℕ → Coefficient
coefficients m = coefficient_at m (cases_lt m 3)

-- the text with fractions of residues of columns
abbrev pub fractions_of : ℕ → ColumnList → (ℕ → ℕ) → List ℕ
fractions_of m columns row = fractions_text columns.list (coefficients m) (pairs_from 0 (length columns.list) row)

-- the text of the sum of the rows, each times the coefficient of its word, or of the refusal
abbrev pub answer_by : ℕ → ColumnList → (ℕ → ℕ → ℕ) → LineMeaning → List ℕ
answer_by m columns forms (means s) = fractions_of m columns (λ col. cols_by columns.list forms s col % m)
answer_by m columns forms (refused fault) = fault_text fault

-- so the meaning of a line is answered
abbrev pub reply_by : ℕ → ColumnList → (ℕ → ℕ → ℕ) → List ℕ → List ℕ
reply_by m columns forms line = answer_by m columns forms (some_meaning m columns.weight columns.depth line).0
