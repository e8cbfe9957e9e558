-- The text of a reply with fractions, from the steps that make it.
use Rattle.std.specs.Prelude.{◌≡◌, ℕ, ◌+◌, ◌<◌, ◌≤◌, Bool, true, List, [], length, get_or}
use Rattle.std.proofs.Common.{refl, sym, ap, ◌∙◌, arith}
use Rattle.sparse_rows.specs.Entries.{IsRow, IsBelow, AllIn}
use Rattle.sparse_rows.proofs.EntryLemmas.{below_more}
use Rattle.column_order.specs.Columns.{ColumnList}
use Rattle.echelon.specs.Lists.{lead_at, row_at}
use Rattle.lyndon_words.specs.Lyndon.{joined}
use Rattle.table_model.specs.MonomialWords.{column_at}
use Rattle.table_model.specs.Conversion.{IsTable}
use Rattle.zeta_expr.specs.LineMeaning.{LineMeaning, IsMeaning}
use Rattle.zeta_expr.proofs.OneMeaning.{some_meaning, one_meaning}
use Rattle.poly_print.specs.Polynomials.{pairs_from, residue_pairs}
use Rattle.poly_print.proofs.PairLemmas.{pairs_from-entries, residue_pairs-pairs}
use Rattle.lyndon_polys.specs.Tables.{entries_of}
use Rattle.fraction_print.specs.FractionTexts.{IsFractionsText, fractions_text}
use Rattle.fraction_print.proofs.TextLaws.{one_text}
use Rattle.word_forms.specs.Forms.{IsFormOf, AreForms}
use Rattle.fraction_replies.specs.Replies.{AreFractionReplies}
use Rattle.fraction_replies.specs.Forms.{coefficients, fractions_of, answer_by, reply_by}
use Rattle.fraction_replies.proofs.FormFractions.{are_coefficients, replies_by_forms}

-- the meaning that a line has is answered
pub answered_line : (m : ℕ) (columns : ColumnList) (forms : ℕ → ℕ → ℕ) (line : List ℕ) (a : LineMeaning)
    → IsMeaning m columns.weight columns.depth line a → answer_by m columns forms a ≡ reply_by m columns forms line
answered_line m columns forms line a is =
    let given : (b : LineMeaning) × IsMeaning m columns.weight columns.depth line b = some_meaning m columns.weight columns.depth line in
    ap (answer_by m columns forms) (one_meaning m columns.weight columns.depth line a given.0 is given.1)

module _ {E : Type 0} (none : E) (has : E → Bool) (value : E → ℕ) (m : ℕ) where
  -- the text of a row is that of its residues
  pub text_of_residues : 3 ≤ m → value none ≡ 0 → has none ≡ true → ((a : E) → has a ≡ true → value a < m)
      → ((a b : E) → has a ≡ true → has b ≡ true → value a ≡ value b → a ≡ b)
      → (columns : ColumnList) (row : List (ℕ × E)) (f : ℕ → ℕ) (text : List ℕ) → IsRow (λ k. k) none 0 row → IsBelow (λ k. k) (length columns.list) row
      → AllIn has row → ((q : ℕ) → entries_of value row q ≡ f q)
      → IsFractionsText m columns.list (residue_pairs (λ k. k) value row) text → text ≡ fractions_of m columns f
  text_of_residues from value_zero has_zero value_below value_injective columns row f text is_row below in_ring same prints =
      let n = length columns.list in
      let pairs = residue_pairs-pairs none has value value_zero has_zero value_injective m n 0 row value_below is_row below in_ring in
      one_text m n columns (residue_pairs (λ k. k) value row) text (fractions_text columns.list (coefficients m) (residue_pairs (λ k. k) value row)) pairs
      prints (record { coefficient = coefficients m; are = are_coefficients m from; prints = refl })
      ∙ ap (fractions_text columns.list (coefficients m))
      (sym (pairs_from-entries none has value value_zero has_zero value_injective 0 n row is_row
      (below_more (λ c. c) n (0 + n) row (omega arith) below) in_ring)
      ∙ ap (pairs_from 0 n) (λ i q. same q i))

  -- the polynomials of the words make the replies of the table
  pub forms_reply : (columns : ColumnList) (rows forms : List (List (ℕ × E))) → IsTable m columns → AreForms m has value columns rows forms
      → AreFractionReplies m columns (length rows) (lead_at rows) (row_at value rows) (reply_by m columns (row_at value forms))
  forms_reply columns rows forms table are =
      replies_by_forms m columns table (length rows) (lead_at rows) (row_at value rows) (row_at value forms)
      (λ col l.
      let f : IsFormOf m has value columns rows (joined (column_at columns.list col)) (get_or forms col []) = are.each col l in f.polynomial)
