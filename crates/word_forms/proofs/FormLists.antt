-- Steps of making the forms: the sum of one word, its normal form, and one form more.
use Rattle.std.specs.Prelude.{◌≡◌, ℕ, ◌+◌, ◌%◌, ◌<◌, ◌≤◌, ◌⊎◌, Bool, true, false, not, ◌&&◌, List, [], ◌∷◌, ◌++◌, Some, length, get_or, slice_get, Contains}
use Rattle.std.proofs.Common.{sym, ap, subst, ◌∙◌, inl, inr, arith}
use Rattle.std.specs.Map.{keys_of}
use Rattle.std.proofs.lemmas.Bool.{cases_lt, eq-eqb, le-leb}
use Rattle.std.proofs.lemmas.List.{get_or_append_left, length-append}
use Rattle.std.proofs.lemmas.Option.{get_or_from_slice_get}
use Rattle.std.proofs.Math.Seq.{get_or-append_seam}
use Rattle.zeta_model.specs.declared.Letter.{Letter}
use Rattle.zeta_model.specs.Sums.{Sum, single}
use Rattle.zeta_model.specs.Words.{depth_of}
use Rattle.zeta_model.proofs.ListLemmas.{from-filter}
use Rattle.zeta_model.proofs.ModularLemmas.{same-mod}
use Rattle.zeta_model.proofs.ProductWords.{single-other}
use Rattle.word_sums.specs.Terms.{coefficient_of}
use Rattle.word_sums.specs.Sums.{IsSumOf}
use Rattle.word_sums.specs.Failing.{failing, IsLeast}
use Rattle.word_sums.proofs.KnownTerms.{held}
use Rattle.lyndon_words.specs.Lyndon.{joined}
use Rattle.column_order.specs.Columns.{ColumnList}
use Rattle.echelon.specs.Lists.{lead_at, row_at}
use Rattle.lyndon_polys.specs.Tables.{is_table_word}
use Rattle.table_model.specs.MonomialWords.{column_at}
use Rattle.table_model.specs.Computed.{cols_by}
use Rattle.table_model.specs.Conversion.{IsTable, IsTableWord, IsTableSum, IsCols}
use Rattle.table_model.specs.Complete.{IsPolynomial}
use Rattle.table_model.proofs.TableColumns.{word_of_table}
use Rattle.word_forms.proofs.FormSums.{residues_polynomial}
use Rattle.word_forms.specs.Forms.{FitForms, IsFormOf, AreFirstForms, AreForms}

abbrev Word : Type 0
Word = List Letter

table_word_passes : (w d : ℕ) (t : Word) → IsTableWord w d t → is_table_word w d t ≡ true
table_word_passes w d t k = λ i. k.admissible i && (eq-eqb (length t) w k.weight i && le-leb (depth_of t) d k.depth i)

refuse : (b : Bool) → b ≡ true → not b ≡ true → ⊥
refuse true e f = cc
refuse false e f = cc

module _ {E : Type 0} (has : E → Bool) (nought : E) (value : E → ℕ) (m : ℕ) (word : Word) (sum : List (Word × E))
    (is : IsSumOf nought has value m (single word) sum) where
  -- no word of the sum is out of the table
  pub none_failing : has nought ≡ true → value nought ≡ 0 → ((a b : E) → has a ≡ true → has b ≡ true → value a ≡ value b → a ≡ b)
      → (w d : ℕ) → IsTableWord w d word → (u : Word) → IsLeast (failing (is_table_word w d) sum) u → ⊥
  none_failing has_nought value_nought injective w d table_word u least =
      let c : Contains (keys_of sum) u × (not (is_table_word w d u) ≡ true) =
      from-filter (λ t. not (is_table_word w d t)) (keys_of sum) u least.stands in
      let other : ¬ (u ≡ word) =
      λ e. refuse (is_table_word w d u) (subst (λ t. is_table_word w d t ≡ true) (sym e) (table_word_passes w d word table_word)) c.1 in
      let z : 0 % m ≡ 0 = omega arith in
      let none : coefficient_of value sum u ≡ 0 = is.coefficients u ∙ ap (λ n. n % m) (single-other word u other) ∙ z in
      (held value nought has has_nought value_nought injective sum is.terms is.in_ring u).0 c.0 none

  -- its row is the word's
  pub cols_of_word : (columns : ColumnList) (row : ℕ → ℕ) → IsCols m columns (coefficient_of value sum) row → IsCols m columns (single word) row
  cols_of_word columns row c =
      record { over = c.over; words = λ t. c.words t ∙ ap (λ n. n % m) (is.coefficients t) ∙ same-mod m (single word t) }

-- the word of a column is one of the table
pub table_word_at : (m : ℕ) (columns : ColumnList) (i : ℕ) (p : List Word) (u : Word) → IsTable m columns → i < length columns.list
    → slice_get columns.list i ≡ Some p → u ≡ joined p → (u ≡ joined (column_at columns.list i)) × IsTableWord columns.weight columns.depth u
table_word_at m columns i p u table inside at is =
    let same : u ≡ joined (column_at columns.list i) = is ∙ ap joined (sym (get_or_from_slice_get columns.list i p [] at)) in
    (same, subst (IsTableWord columns.weight columns.depth) (sym same) (word_of_table m columns table i inside))

module _ {E : Type 0} (m : ℕ) (has : E → Bool) (value : E → ℕ) (columns : ColumnList) (rows : List (List (ℕ × E))) where
  pub no_forms : (forms : List (List (ℕ × E))) → forms ≡ [] → AreFirstForms m has value columns rows 0 forms
  no_forms forms none = record { count = ap length none; each = λ i l. absurd (omega arith) }

  pub one_form_more : (n : ℕ) (forms new : List (List (ℕ × E))) (word : Word) (form : List (ℕ × E)) → AreFirstForms m has value columns rows n forms
      → word ≡ joined (column_at columns.list n) → IsFormOf m has value columns rows word form → new ≡ forms ++ form ∷ []
      → AreFirstForms m has value columns rows (n + 1) new
  one_form_more n forms new word form are is of_word made = subst (AreFirstForms m has value columns rows (n + 1)) (sym made) (record {
    count = omega (arith, length-append forms (form ∷ []), are.count);
    each = λ i l. at i l (cases_lt i n);
  })
    where
      at : (i : ℕ) → i < n + 1 → (i < n) ⊎ (n ≤ i) → IsFormOf m has value columns rows (joined (column_at columns.list i)) (get_or (forms ++ form ∷ []) i [])
      at i l (inl front) =
          subst (IsFormOf m has value columns rows (joined (column_at columns.list i)))
          (sym (get_or_append_left forms (form ∷ []) [] i (omega (arith, are.count)))) (are.each i front)
      at i l (inr behind) =
          let last : i ≡ n = omega arith in
          let place : i ≡ length forms = omega (arith, are.count) in
          let here : get_or (forms ++ form ∷ []) i [] ≡ form = ap (λ k. get_or (forms ++ form ∷ []) k []) place ∙ get_or-append_seam forms form [] [] in
          subst (λ f. IsFormOf m has value columns rows (joined (column_at columns.list i)) f) (sym here)
          (subst (λ u. IsFormOf m has value columns rows u form) (is ∙ ap (λ k. joined (column_at columns.list k)) (sym last)) of_word)

  pub all_forms : (n : ℕ) (forms : List (List (ℕ × E))) → n ≡ length columns.list → AreFirstForms m has value columns rows n forms
      → AreForms m has value columns rows forms
  all_forms n forms e are = subst (λ k. AreFirstForms m has value columns rows k forms) e are

  -- the forms fit the columns
  pub forms_fit : (forms : List (List (ℕ × E))) → AreForms m has value columns rows forms → FitForms has (length columns.list) forms
  forms_fit forms are = record {
    count = are.count;
    below = λ i l.
        let f : IsFormOf m has value columns rows (joined (column_at columns.list i)) (get_or forms i []) = are.each i (omega (arith, are.count)) in f.below;
    in_ring = λ i l.
        let f : IsFormOf m has value columns rows (joined (column_at columns.list i)) (get_or forms i []) = are.each i (omega (arith, are.count)) in f.in_ring;
  }

  -- the sum of the forms of the words of a sum is its polynomial
  pub sum_form : (forms : List (List (ℕ × E))) → IsTable m columns → AreForms m has value columns rows forms → (s : Sum) → IsTableSum m columns s
      → (p : ℕ → ℕ) → ((q : ℕ) → p q ≡ cols_by columns.list (row_at value forms) s q % m)
      → IsPolynomial m columns (length rows) (lead_at rows) (row_at value rows) s p
  sum_form forms table are =
      residues_polynomial m columns table (length rows) (lead_at rows) (row_at value rows) (row_at value forms)
      (λ col l. let f : IsFormOf m has value columns rows (joined (column_at columns.list col)) (get_or forms col []) = are.each col l in f.polynomial)
