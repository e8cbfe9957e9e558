-- Steps of `word_rows`: the row of one word more is put behind the others.
use Rattle.std.proofs.Common.{◌≡◌, ℕ, ◌+◌, ◌<◌, ◌≤◌, ◌⊎◌, Bool, List, [], ◌∷◌, ◌++◌, length, take, get_or, Contains, All, inl, inr, refl, sym, ◌∙◌}
use Rattle.std.proofs.Common.{ap, subst, arith}
use Rattle.std.specs.List.Sorted.{IsStrictlySortedBy}
use Rattle.std.specs.Map.{keys_of}
use Rattle.std.specs.declared.cmp.Ordering.TheVariants.{Less}
use Rattle.std.proofs.lemmas.Bool.{cases_eq, cases_lt}
use Rattle.std.proofs.lemmas.List.{take_more, take_all, get_or_default, get_or-take, length-take-le}
use Rattle.std.proofs.lemmas.List.Elements.{All-push, All-nil}
use Rattle.std.proofs.lemmas.Map.Keys.{Less-from_sorted, sorted_from_all_adjacent}
use Rattle.zeta_model.specs.declared.Letter.{Letter}
use Rattle.zeta_model.specs.Sums.{single}
use Rattle.zeta_model.specs.Words.{word_cmp}
use Rattle.zeta_model.proofs.WordOrder.{word_cmp_total}
use Rattle.lyndon_words.specs.Lyndon.{IsBefore}
use Rattle.column_order.specs.Columns.{ColumnList}
use Rattle.table_model.specs.Conversion.{IsTableWord}
use Rattle.lyndon_polys.specs.Inner.{IsRowOf, AreWordRows, AreAllWordRows}
use Rattle.lyndon_polys.proofs.EarliestFaults.{not_before_itself, before_through}

abbrev Word : Type 0
Word = List Letter

keys_of-push : {X : Type 0} (rows : List (Word × X)) (r : Word × X) → keys_of (rows ++ r ∷ []) ≡ keys_of rows ++ r.0 ∷ []
keys_of-push [] r = refl
keys_of-push (x ∷ rows) r = ap (λ ks. x.0 ∷ ks) (keys_of-push rows r)

module _ {E : Type 0} (m : ℕ) (has : E → Bool) (value : E → ℕ) (columns : ColumnList) (words : List Word) where
  -- the first i words have their rows
  pub record Rows (i : ℕ) (rows : List (Word × List (ℕ × E))) : Type 0 where
    pub keys : keys_of rows ≡ take i words
    pub each : All (λ r. IsRowOf m has value columns (single r.0) r.1) rows

  pub no_rows : (rows : List (Word × List (ℕ × E))) → rows ≡ [] → Rows 0 rows
  no_rows rows none = subst (Rows 0) (sym none) (record { keys = refl; each = All-nil (λ r. IsRowOf m has value columns (single r.0) r.1) })

  pub one_row_more : (i : ℕ) (rows : List (Word × List (ℕ × E))) (w : Word) (row : List (ℕ × E)) (new : List (Word × List (ℕ × E))) → i < length words
      → w ≡ get_or words i w → Rows i rows
      → IsRowOf m has value columns (single w) row → new ≡ rows ++ (w, row) ∷ [] → Rows (i + 1) new
  one_row_more i rows w row new l is r of_word made = subst (Rows (i + 1)) (sym made) (record {
    keys = keys_of-push rows (w, row) ∙ (λ j. r.keys j ++ is j ∷ []) ∙ sym (take_more words i w l);
    each = All-push (λ x. IsRowOf m has value columns (single x.0) x.1) rows (w, row) r.each of_word;
  })

  module _ (sorted : IsStrictlySortedBy word_cmp words) where
    sorted-take : (i : ℕ) → i ≤ length words → IsStrictlySortedBy word_cmp (take i words)
    sorted-take i l =
        let few : length (take i words) ≡ i = length-take-le i words l in
        sorted_from_all_adjacent word_cmp_total (take i words) []
        (λ k h.
        let up : word_cmp (get_or words k []) (get_or words (k + 1) []) ≡ Less =
        Less-from_sorted word_cmp words k (k + 1) [] sorted (omega arith) (omega (arith, h, few)) in
        (λ j. word_cmp (get_or-take i words k [] (omega (arith, h, few)) j) (get_or-take i words (k + 1) [] (omega (arith, h, few)) j)) ∙ up)

    pub are_rows : (i : ℕ) (rows : List (Word × List (ℕ × E))) → i ≤ length words → Rows i rows → AreWordRows m has value columns rows
    are_rows i rows l r = record { sorted = subst (IsStrictlySortedBy word_cmp) (sym r.keys) (sorted-take i l); each = r.each }

    -- at the end each word has its row
    pub all_rows : (i : ℕ) (rows : List (Word × List (ℕ × E))) → i ≡ length words
        → ((t : Word) → IsTableWord columns.weight columns.depth t → Contains words t) → Rows i rows → AreAllWordRows m has value columns rows
    all_rows i rows e whole r = record {
      known = are_rows i rows (omega arith) r;
      whole = λ t is. subst (λ ks. Contains ks t) (sym (take_all i words (omega arith)) ∙ sym r.keys) (whole t is);
    }

    -- the words before one are those in front of it
    pub lesser_known : (i : ℕ) (rows : List (Word × List (ℕ × E))) (w t : Word) → i < length words → w ≡ get_or words i w → Rows i rows → Contains words t
        → IsBefore t w → Contains (keys_of rows) t
    lesser_known i rows w t l is r (k, lk, e) before = subst (λ ks. Contains ks t) (sym r.keys) (go (cases_lt k i))
      where
        go : (k < i) ⊎ (i ≤ k) → Contains (take i words) t
        go (inl front) = (k, omega (arith, front, length-take-le i words (omega arith)), get_or-take i words k t front ∙ e)
        go (inr behind) = elim (cases_eq k i) [
          | inl same ↦ absurd (not_before_itself t
              (subst (IsBefore t) (is ∙ get_or_default words i w t l ∙ ap (λ j. get_or words j t) (sym same) ∙ e) before))
          | inr other ↦
              let up : IsBefore w t = (λ j. word_cmp ((is ∙ get_or_default words i w t l) j) (sym e j))
              ∙ Less-from_sorted word_cmp words i k t sorted (omega arith) lk in
              absurd (not_before_itself t (before_through t w t before up))
        ]
