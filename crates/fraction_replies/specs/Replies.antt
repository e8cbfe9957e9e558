-- The reply to a line over a table and reduced rows, whose residues are printed as fractions.
use Rattle.std.specs.Prelude.{◌≡◌, ℕ, ◌%◌, List, length}
use Rattle.zeta_model.specs.Sums.{Sum}
use Rattle.column_order.specs.Columns.{ColumnList}
use Rattle.table_model.specs.Complete.{IsPolynomial}
use Rattle.zeta_expr.specs.LineMeaning.{LineMeaning, means, refused, IsMeaning}
use Rattle.poly_print.specs.Polynomials.{pairs_from}
use Rattle.fraction_print.specs.FractionTexts.{IsFractionsText}
use Rattle.table_rewrite.specs.Replies.{fault_text}

-- the text with fractions of the polynomial of a sum: of the residues of the normal form, by the rows, of the row of the sum
pub record IsFractionsOfSum (m : ℕ) (columns : ColumnList) (count : ℕ) (lead : ℕ → ℕ) (rows : ℕ → ℕ → ℕ) (s : Sum) (text : List ℕ) : Type 0 where
  pub rest : ℕ → ℕ
  pub polynomial : IsPolynomial m columns count lead rows s rest
  pub prints : IsFractionsText m columns.list (pairs_from 0 (length columns.list) (λ col. rest col % m)) text

-- the bytes that answer a meaning: that text, or the text of the refusal
abbrev pub AnswersByFractions : ℕ → ColumnList → ℕ → (ℕ → ℕ) → (ℕ → ℕ → ℕ) → LineMeaning → List ℕ → Type 0
AnswersByFractions m columns count lead rows (means s) bytes = IsFractionsOfSum m columns count lead rows s bytes
AnswersByFractions m columns count lead rows (refused fault) bytes = bytes ≡ fault_text fault

-- the bytes that answer a line by the rows of a table
pub record IsFractionReply (m : ℕ) (columns : ColumnList) (count : ℕ) (lead : ℕ → ℕ) (rows : ℕ → ℕ → ℕ) (line bytes : List ℕ) : Type 0 where
  pub meaning : LineMeaning
  pub is_meaning : IsMeaning m columns.weight columns.depth line meaning
  pub answers : AnswersByFractions m columns count lead rows meaning bytes

-- each line gets its reply by the rows of a table
abbrev pub AreFractionReplies : ℕ → ColumnList → ℕ → (ℕ → ℕ) → (ℕ → ℕ → ℕ) → (List ℕ → List ℕ) → Type 0
AreFractionReplies m columns count lead rows reply = (line : List ℕ) → IsFractionReply m columns count lead rows line (reply line)
