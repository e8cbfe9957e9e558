-- The reply to a line over a table and reduced rows, and its text.
use Rattle.std.specs.Prelude.{◌≡◌, ℕ, ◌%◌, ◌<◌, List, [], ◌++◌, codes, length, get_or}
use Rattle.std.specs.Fmt.{decimal}
use Rattle.zeta_model.specs.Sums.{Sum}
use Rattle.sparse_rows.specs.Entries.{IsBelow}
use Rattle.column_order.specs.Columns.{ColumnList}
use Rattle.echelon.specs.Lists.{lead_at, row_at}
use Rattle.table_model.specs.Complete.{IsPolynomial}
use Rattle.zeta_expr.specs.declared.fault.LineFault.{LineFault}
use Rattle.zeta_expr.specs.declared.fault.LineFault.TheVariants.{LineTooLong, Syntax, NoInverse, WeightIs, DepthIs, Memory}
use Rattle.zeta_expr.specs.LineMeaning.{LineMeaning, means, refused, IsMeaning}
use Rattle.poly_print.specs.Polynomials.{residues_text}
use Rattle.table_rewrite.specs.declared.reply.Reply.{Reply}
use Rattle.table_rewrite.specs.declared.reply.Reply.TheVariants.{Poly, Refused}

-- the text of the polynomial of a sum: of the residues of the normal form, by the rows, of the row of the sum
pub record IsPolynomialText (m : ℕ) (columns : ColumnList) (count : ℕ) (lead : ℕ → ℕ) (rows : ℕ → ℕ → ℕ) (s : Sum) (text : List ℕ) : Type 0 where
  pub rest : ℕ → ℕ
  pub polynomial : IsPolynomial m columns count lead rows s rest
  pub prints : text ≡ residues_text columns.list (λ col. rest col % m)

module _ {E : Type 0} where
  -- the columns of the rows are below n
  abbrev pub AreOver : ℕ → List (List (ℕ × E)) → Type 0
  AreOver n rows = (i : ℕ) → i < length rows → IsBelow (λ k. k) n (get_or rows i [])

  -- the same by rows that are lists of pairs
  abbrev pub IsPolyText : ℕ → (E → ℕ) → ColumnList → List (List (ℕ × E)) → Sum → List ℕ → Type 0
  IsPolyText m value columns rows = IsPolynomialText m columns (length rows) (lead_at rows) (row_at value rows)

  -- the polynomial of what the line means, or its refusal
  abbrev pub IsReply : ℕ → (E → ℕ) → ColumnList → List (List (ℕ × E)) → List ℕ → Reply → Type 0
  IsReply m value columns rows line (Poly text) =
      (s : Sum) × IsMeaning m columns.weight columns.depth line (means s) × IsPolyText m value columns rows s text
  IsReply m value columns rows line (Refused fault) = IsMeaning m columns.weight columns.depth line (refused fault)

-- the text of a refusal, with what it tells
abbrev pub fault_text : LineFault → List ℕ
fault_text LineTooLong = codes "line too long"
fault_text (Syntax at) = codes "syntax " ++ decimal at
fault_text (NoInverse b) = codes "no inverse " ++ decimal b
fault_text (WeightIs k) = codes "weight " ++ decimal k
fault_text (DepthIs k) = codes "depth " ++ decimal k
fault_text (Memory e) = codes "out of memory"

abbrev pub text_of_reply : Reply → List ℕ
text_of_reply (Poly text) = text
text_of_reply (Refused fault) = fault_text fault

-- the bytes that answer a meaning: the text of the polynomial of the sum, or of the refusal
abbrev pub AnswersMeaning : ℕ → ColumnList → ℕ → (ℕ → ℕ) → (ℕ → ℕ → ℕ) → LineMeaning → List ℕ → Type 0
AnswersMeaning m columns count lead rows (means s) bytes = IsPolynomialText m columns count lead rows s bytes
AnswersMeaning m columns count lead rows (refused fault) bytes = bytes ≡ fault_text fault

-- the bytes that answer a line by the rows of a table
pub record IsLineReply (m : ℕ) (columns : ColumnList) (count : ℕ) (lead : ℕ → ℕ) (rows : ℕ → ℕ → ℕ) (line bytes : List ℕ) : Type 0 where
  pub meaning : LineMeaning
  pub is_meaning : IsMeaning m columns.weight columns.depth line meaning
  pub answers : AnswersMeaning m columns count lead rows meaning bytes

-- each line gets its reply by the rows of a table
abbrev pub AreReplies : ℕ → ColumnList → ℕ → (ℕ → ℕ) → (ℕ → ℕ → ℕ) → (List ℕ → List ℕ) → Type 0
AreReplies m columns count lead rows reply = (line : List ℕ) → IsLineReply m columns count lead rows line (reply line)
