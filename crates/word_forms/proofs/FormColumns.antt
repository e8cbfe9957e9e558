-- The polynomial of a word has columns of the table alone.
use Rattle.std.specs.Prelude.{◌≡◌, ◌≢◌, ℕ, ◌+◌, ◌%◌, ◌<◌, ◌≤◌, ◌⊎◌, Bool, true, List, [], ◌∷◌, length, get_or, cond}
use Rattle.std.proofs.Common.{refl, sym, ap, ◌∙◌, inl, inr, arith, mod-eq_of_lt}
use Rattle.std.proofs.lemmas.Bool.{cases_lt, ne_eqb}
use Rattle.zeta_model.specs.Sums.{Sum}
use Rattle.sparse_rows.specs.Entries.{IsRow, IsBelow, AllIn}
use Rattle.sparse_rows.proofs.EntryLemmas.{entry_of_first, entry_of_below}
use Rattle.column_order.specs.Columns.{ColumnList}
use Rattle.echelon.specs.Lists.{entries_of, lead_at, row_at}
use Rattle.table_model.specs.Conversion.{IsOver}
use Rattle.table_model.specs.Complete.{IsPolynomial}
use Rattle.table_model.proofs.Polynomials.{polynomial_over}

module _ {E : Type 0} (value : E → ℕ) where
  -- from its columns on a row has nothing
  none_behind : (n q : ℕ) (es : List (ℕ × E)) → IsBelow (λ k. k) n es → n ≤ q → entries_of value es q ≡ 0
  none_behind n q [] b h = refl
  none_behind n q (e ∷ es) b h =
      let other : e.0 ≢ q = omega (arith, b.0) in
      ap (λ t. cond t (value e.1) 0 + entries_of value es q) (ne_eqb e.0 q other) ∙ omega (arith, none_behind n q es b.1 h)

  module _ (has : E → Bool) (nought : E) (m : ℕ) (has_nought : has nought ≡ true) (value_nought : value nought ≡ 0)
      (below : (a : E) → has a ≡ true → value a < m) (injective : (a b : E) → has a ≡ true → has b ≡ true → value a ≡ value b → a ≡ b) where
    -- the columns of a row are below n where it has nothing from n on
    below_by_entries : (low n : ℕ) (es : List (ℕ × E)) → IsRow (λ k. k) nought low es → AllIn has es → ((q : ℕ) → n ≤ q → entries_of value es q ≡ 0)
        → IsBelow (λ k. k) n es
    below_by_entries low n [] r a none = tt
    below_by_entries low n (e ∷ es) r a none =
        let first : entries_of value (e ∷ es) e.0 ≡ value e.1 = entry_of_first (λ k. k) nought value low e es r in (
          by first (cases_lt e.0 n),
          below_by_entries (e.0 + 1) n es r.2 a.1 (λ q l. omega (arith, none q l)),
        )
      where
        by : entries_of value (e ∷ es) e.0 ≡ value e.1 → (e.0 < n) ⊎ (n ≤ e.0) → e.0 < n
        by first (inl less) = less
        by first (inr late) = absurd (r.1 (injective e.1 nought a.0 has_nought (sym first ∙ none e.0 late ∙ sym value_nought)))

    -- so it is of the polynomial of a sum, by rows over the columns
    pub polynomial_below : (columns : ColumnList) (rows : List (List (ℕ × E))) (s : Sum) (form : List (ℕ × E)) → 0 < m
        → ((i : ℕ) → i < length rows → IsBelow (λ k. k) (length columns.list) (get_or rows i []))
        → IsPolynomial m columns (length rows) (lead_at rows) (row_at value rows) s (entries_of value form)
        → IsRow (λ k. k) nought 0 form → AllIn has form → IsBelow (λ k. k) (length columns.list) form
    polynomial_below columns rows s form pos over polynomial r a =
        let is_over : IsOver m columns (entries_of value form) =
        polynomial_over m columns (length rows) (lead_at rows) (row_at value rows)
        (λ i l col past. ap (λ x. x % m) (none_behind (length columns.list) col (get_or rows i []) (over i l) past)) s (entries_of value form) polynomial in
        below_by_entries 0 (length columns.list) form r a (λ q l.
        sym (mod-eq_of_lt (entry_of_below (λ k. k) nought has value m 0 q form pos below r a)) ∙ is_over q l ∙ mod-eq_of_lt pos)
