-- Steps of `to_words`: the words of one column more, and the law.
use Rattle.std.proofs.Common.{◌≡◌, ℕ, ◌+◌, ◌*◌, ◌%◌, ◌<◌, Bool, true, List, [], ◌∷◌, length, refl, sym, ◌∙◌, ap, subst, arith, mod-eq_of_lt}
use Rattle.zeta_model.specs.declared.Letter.{Letter}
use Rattle.zeta_model.specs.Modular.{Same}
use Rattle.zeta_model.proofs.ModularLemmas.{same-add_right, same-add_left, same-mul_left, same-mod}
use Rattle.word_sums.specs.Terms.{coefficient_of, IsTerms, AllIn as AllTermsIn}
use Rattle.word_sums.specs.Sums.{IsSum, IsSumOf}
use Rattle.word_sums.proofs.SumLemmas.{IsSum_below}
use Rattle.sparse_rows.specs.Entries.{IsRow, IsBelow, AllIn}
use Rattle.sparse_rows.proofs.EntryLemmas.{entry_of_below}
use Rattle.column_order.specs.Columns.{ColumnList}
use Rattle.table_model.specs.MonomialWords.{column_at, words_of_monomial, words_of_row}
use Rattle.table_model.specs.Conversion.{IsTable, Converts, IsOver, IsCols}
use Rattle.table_model.proofs.RowWords.{same-words_of_row, cols_unique}
use Rattle.lyndon_polys.specs.Tables.{entries_of}
use Rattle.lyndon_polys.proofs.ColsLemmas.{words_of_row-plus, cols_entry, cols_zero}

abbrev Word : Type 0
Word = List Letter

module _ {E : Type 0} (nought : E) (has : E → Bool) (value : E → ℕ) (m : ℕ) (columns : ColumnList) (all : List (ℕ × E)) where
  -- the sum, with the words of the pairs that are left, has the words of all pairs
  pub record Converting (sum : List (Word × E)) (rest : List (ℕ × E)) : Type 0 where
    pub is_sum : IsSum nought has sum
    pub below : IsBelow (λ k. k) (length columns.list) rest
    pub in_ring : AllIn has rest
    pub same : (t : Word) → Same m (coefficient_of value sum t + words_of_row columns.list (entries_of value rest) t)
        (words_of_row columns.list (entries_of value all) t)

  pub Converting-start : (sum : List (Word × E)) → sum ≡ [] → IsSum nought has sum → IsBelow (λ k. k) (length columns.list) all → AllIn has all
      → Converting sum all
  Converting-start sum none is below in_ring =
      record {
        is_sum = is;
        below = below;
        in_ring = in_ring;
        same =
            λ t. ap (λ es. (coefficient_of value es t + words_of_row columns.list (entries_of value all) t) % m) none ∙ ap (λ x. x % m) (omega arith);
      }

  module _ (sum : List (Word × E)) (rest behind : List (ℕ × E)) (entry : ℕ × E) (is : rest ≡ entry ∷ behind) (kept : Converting sum rest) where
    pub column_in : entry.0 < length columns.list
    column_in = (subst (IsBelow (λ k. k) (length columns.list)) is kept.below).0

    pub residue_in : has entry.1 ≡ true
    residue_in = (subst (AllIn has) is kept.in_ring).0

    -- the words of a row that begins with the entry
    begun : (t : Word) → Same m (words_of_row columns.list (entries_of value (entry ∷ behind)) t)
        (value entry.1 * words_of_monomial (column_at columns.list entry.0) t + words_of_row columns.list (entries_of value behind) t)
    begun t =
        let one : ℕ → ℕ = entries_of value ((entry.0, entry.1) ∷ []) in
        let w : ℕ = words_of_row columns.list (entries_of value behind) t in
        let only = cols_entry m columns value entry.0 entry.1 column_in in
        same-words_of_row m columns (entries_of value (entry ∷ behind)) (λ q. one q + 1 * entries_of value behind q) (λ q. ap (λ x. x % m) (omega arith)) t
        ∙ ap (λ x. x % m) (words_of_row-plus columns.list one (entries_of value behind) 1 t)
        ∙ same-add_right m (words_of_row columns.list one t) (value entry.1 * words_of_monomial (column_at columns.list entry.0) t) (1 * w) (only.words t)
        ∙ ap (λ x. x % m) (let e : value entry.1 * words_of_monomial (column_at columns.list entry.0) t + 1 * w
        ≡ value entry.1 * words_of_monomial (column_at columns.list entry.0) t + w = omega arith in e)

    pub Converting-next : (p : List Word) (words new : List (Word × E)) → column_at columns.list entry.0 ≡ p
        → IsSumOf nought has value m (words_of_monomial p) words → IsSum nought has new
        → ((t : Word) → coefficient_of value new t ≡ (coefficient_of value sum t + value entry.1 * coefficient_of value words t) % m)
        → Converting new behind
    Converting-next p words new at of_words is_new added = record {
      is_sum = is_new;
      below = (subst (IsBelow (λ k. k) (length columns.list)) is kept.below).1;
      in_ring = (subst (AllIn has) is kept.in_ring).1;
      same = λ t.
          let s : ℕ = coefficient_of value sum t in
          let c : ℕ = value entry.1 in
          let v : ℕ = words_of_monomial p t in
          let w : ℕ = words_of_row columns.list (entries_of value behind) t in
          let here : Same m (coefficient_of value new t) (s + c * v) =
          ap (λ x. x % m) (added t) ∙ same-mod m (s + c * coefficient_of value words t)
          ∙ same-add_left m (c * coefficient_of value words t) (c * v) s
          (same-mul_left m (coefficient_of value words t) v c (ap (λ x. x % m) (of_words.coefficients t) ∙ same-mod m v)) in
          same-add_right m (coefficient_of value new t) (s + c * v) w here
          ∙ ap (λ x. x % m) (let e : s + c * v + w ≡ s + (c * v + w) = omega arith in e)
          ∙ same-add_left m (c * v + w) (words_of_row columns.list (entries_of value (entry ∷ behind)) t) s
          (ap (λ q. (c * words_of_monomial q t + w) % m) (sym at) ∙ sym (begun t))
          ∙ ap (λ es. (s + words_of_row columns.list (entries_of value es) t) % m) (sym is) ∙ kept.same t;
    }

  pub Converting-end : (sum : List (Word × E)) (rest : List (ℕ × E)) → 0 < m → ((a : E) → has a ≡ true → value a < m) → length rest ≡ 0
      → Converting sum rest → IsSumOf nought has value m (words_of_row columns.list (entries_of value all)) sum
  Converting-end sum [] pos below none kept =
      let s = kept.is_sum in
      let zero_row = cols_zero m columns in
      record {
        terms = s.terms;
        in_ring = s.in_ring;
        coefficients = λ t.
            let x : ℕ = coefficient_of value sum t in
            sym (mod-eq_of_lt (IsSum_below nought has value m sum pos below s t))
            ∙ ap (λ y. y % m) (let e : x ≡ x + 0 = omega arith in e)
            ∙ same-add_left m 0 (words_of_row columns.list (entries_of value []) t) x (sym (zero_row.words t)) ∙ kept.same t;
      }
  Converting-end sum (e ∷ rest) pos below none kept = absurd (omega arith)

module _ {E : Type 0} (nought : E) (has : E → Bool) (value : E → ℕ) (m : ℕ) (pos : 0 < m) (below : (a : E) → has a ≡ true
    → value a < m) (columns : ColumnList) where
  pub sum_of_row : (terms : List (Word × E)) (row : List (ℕ × E)) → IsTerms nought terms → AllTermsIn has terms
      → IsCols m columns (coefficient_of value terms) (entries_of value row)
      → (t : Word) → words_of_row columns.list (entries_of value row) t % m ≡ coefficient_of value terms t
  sum_of_row terms row are all h t = h.words t ∙ mod-eq_of_lt (IsSum_below nought has value m terms pos below (record { terms = are; in_ring = all }) t)

  pub row_of_words : (row other : List (ℕ × E)) → ((a b : E) → has a ≡ true → has b ≡ true → value a ≡ value b → a ≡ b) → IsTable m columns
      → Converts m columns → IsRow (λ k. k) nought 0 row → AllIn has row → IsOver m columns (entries_of value row)
      → IsRow (λ k. k) nought 0 other → AllIn has other → IsCols m columns (words_of_row columns.list (entries_of value row)) (entries_of value other)
      → (q : ℕ) → entries_of value other q ≡ entries_of value row q
  row_of_words row other injective table converts is_row row_in over is_other other_in h q =
      let same : Same m (entries_of value other q) (entries_of value row q) =
      cols_unique m columns table converts (words_of_row columns.list (entries_of value row)) (entries_of value other) (entries_of value row) h
      (record { over = over; words = λ t. refl }) q in
      sym (mod-eq_of_lt (entry_of_below (λ k. k) nought has value m 0 q other pos below is_other other_in)) ∙ same
      ∙ mod-eq_of_lt (entry_of_below (λ k. k) nought has value m 0 q row pos below is_row row_in)
