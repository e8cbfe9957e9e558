-- The text of a reply, from the steps that make it.
use Rattle.std.specs.Prelude.{◌≡◌, ℕ, ◌^◌, ◌<◌, Bool, true, List, [], length, get_or}
use Rattle.std.proofs.Common.{ap, ◌∙◌, arith}
use Rattle.sparse_rows.specs.Entries.{IsRow, IsBelow, AllIn}
use Rattle.column_order.specs.Columns.{ColumnList}
use Rattle.echelon.specs.Lists.{lead_at, row_at}
use Rattle.lyndon_words.specs.Lyndon.{joined}
use Rattle.table_model.specs.MonomialWords.{column_at}
use Rattle.table_model.specs.Conversion.{IsTable}
use Rattle.zeta_expr.specs.LineMeaning.{LineMeaning, IsMeaning}
use Rattle.zeta_expr.proofs.OneMeaning.{some_meaning, one_meaning}
use Rattle.poly_print.specs.Polynomials.{row_text, residue_pairs, residues_text}
use Rattle.poly_print.proofs.TextLaws.{rows-residues}
use Rattle.lyndon_polys.specs.Tables.{entries_of}
use Rattle.table_rewrite.specs.Replies.{AreReplies}
use Rattle.table_replies.specs.Forms.{answer_by, reply_by}
use Rattle.word_forms.specs.Forms.{IsFormOf, AreForms}
use Rattle.table_replies.proofs.FormReplies.{replies_by_forms}

-- the meaning that a line has is answered
pub answered_line : (m : ℕ) (columns : ColumnList) (forms : ℕ → ℕ → ℕ) (line : List ℕ) (a : LineMeaning)
    → IsMeaning m columns.weight columns.depth line a → answer_by m columns forms a ≡ reply_by m columns forms line
answered_line m columns forms line a is =
    let given : (b : LineMeaning) × IsMeaning m columns.weight columns.depth line b = some_meaning m columns.weight columns.depth line in
    ap (answer_by m columns forms) (one_meaning m columns.weight columns.depth line a given.0 is given.1)

module _ {E : Type 0} (none : E) (has : E → Bool) (value : E → ℕ) (m : ℕ) where
  -- the text of a row is that of its residues
  pub text_of_residues : m < 2 ^ 63 → value none ≡ 0 → has none ≡ true → ((a : E) → has a ≡ true → value a < m)
      → ((a b : E) → has a ≡ true → has b ≡ true → value a ≡ value b → a ≡ b)
      → (columns : ColumnList) (row : List (ℕ × E)) (f : ℕ → ℕ) → IsRow (λ k. k) none 0 row → IsBelow (λ k. k) (length columns.list) row → AllIn has row
      → ((q : ℕ) → entries_of value row q ≡ f q)
      → row_text columns.list (residue_pairs (λ k. k) value row) ≡ residues_text columns.list f
  text_of_residues small value_zero has_zero value_below value_injective columns row f is_row below in_ring same =
      rows-residues none has value m (omega arith) value_zero has_zero value_below value_injective columns row is_row below in_ring
      ∙ ap (residues_text columns.list) (λ i q. same q i)

  -- the polynomials of the words make the replies of the table
  pub forms_reply : (columns : ColumnList) (rows forms : List (List (ℕ × E))) → IsTable m columns → AreForms m has value columns rows forms
      → AreReplies m columns (length rows) (lead_at rows) (row_at value rows) (reply_by m columns (row_at value forms))
  forms_reply columns rows forms table are =
      replies_by_forms m columns table (length rows) (lead_at rows) (row_at value rows) (row_at value forms)
      (λ col l.
      let f : IsFormOf m has value columns rows (joined (column_at columns.list col)) (get_or forms col []) = are.each col l in f.polynomial)
