-- What rows leave of a relation, as a row of elements.
use Rattle.std.proofs.Common.{◌≡◌, ◌≢◌, ℕ, ◌+◌, ◌%◌, ◌<◌, ◌≤◌, Bool, true, List, [], ◌∷◌, cond, length, refl, ◌∙◌, ap, arith}
use Rattle.std.proofs.lemmas.Bool.{ne_eqb}
use Rattle.linear_model.specs.Rows.{SameRow}
use Rattle.linear_model.specs.Reduced.{IsReduced, IsLead}
use Rattle.sparse_rows.specs.Entries.{IsRow, IsBelow, AllIn}
use Rattle.sparse_rows.proofs.EntryLemmas.{entry_of_below}
use Rattle.sparse_rows.proofs.SameRows.{IsLead-first}
use Rattle.column_order.specs.Columns.{ColumnList}
use Rattle.echelon.specs.Lists.{entries_of, lead_at, row_at}
use Rattle.table_model.specs.Conversion.{IsTable, Converts, IsOver}
use Rattle.table_model.specs.ListedSpan.{values_of}
use Rattle.table_model.specs.Complete.{IsPolynomial}
use Rattle.table_model.specs.Faults.{LeavesNothing}
use Rattle.table_model.proofs.Polynomials.{polynomials_same}

module _ {E : Type 0} (value : E → ℕ) (m : ℕ) where
  -- from its bound on a row has nothing
  none-behind : (n q : ℕ) (es : List (ℕ × E)) → IsBelow (λ k. k) n es → n ≤ q → entries_of value es q ≡ 0
  none-behind n q [] b h = refl
  none-behind n q (e ∷ es) b h =
      let other : e.0 ≢ q = omega (arith, b.0) in
      ap (λ t. cond t (value e.1) 0 + entries_of value es q) (ne_eqb e.0 q other) ∙ omega (arith, none-behind n q es b.1 h)

  pub row-over : (columns : ColumnList) (row : List (ℕ × E)) → IsBelow (λ k. k) (length columns.list) row → IsOver m columns (entries_of value row)
  row-over columns row below col l = ap (λ x. x % m) (none-behind (length columns.list) col row below l)

  module _ (columns : ColumnList) (table : IsTable m columns) (converts : Converts m columns) (rows : List (List (ℕ × E)))
      (reduced : IsReduced m (length rows) (lead_at rows) (row_at value rows)) (n : ℕ) (rest : List (ℕ × E))
      (polynomial : IsPolynomial m columns (length rows) (lead_at rows) (row_at value rows) (values_of m columns n) (entries_of value rest)) where
    pub nothing-left : length rest ≡ 0 → LeavesNothing m columns (length rows) (lead_at rows) (row_at value rows) n
    nothing-left none q other col =
        polynomials_same m columns table converts (length rows) (lead_at rows) (row_at value rows) reduced (values_of m columns n) q (entries_of value rest)
        other polynomial col
        ∙ ap (λ x. x % m) (nothing rest none)
      where
        nothing : (rest : List (ℕ × E)) → length rest ≡ 0 → entries_of value rest col ≡ 0
        nothing [] none = refl
        nothing (e ∷ es) none = absurd (omega arith)

  module _ (has : E → Bool) (nought : E) (pos : 0 < m) (has_nought : has nought ≡ true) (value_nought : value nought ≡ 0)
      (small : (a : E) → has a ≡ true → value a < m) (injective : (a b : E) → has a ≡ true → has b ≡ true → value a ≡ value b → a ≡ b) where
    pub entry-below : (row : List (ℕ × E)) (q : ℕ) → IsRow (λ k. k) nought 0 row → AllIn has row → entries_of value row q < m
    entry-below row q r a = entry_of_below (λ k. k) nought has value m 0 q row pos small r a

    -- a row that has pairs is not zero
    pub not-zero : (row : List (ℕ × E)) → 0 < length row → IsRow (λ k. k) nought 0 row → AllIn has row → ¬ (SameRow m (entries_of value row) (λ _. 0))
    not-zero [] some r a none = omega arith
    not-zero (e ∷ es) some r a none =
        let lead : IsLead m (entries_of value (e ∷ es)) e.0 =
        IsLead-first (λ k. k) (λ a b s. s) nought has value m has_nought value_nought injective 0 e es small r a in
        lead.here (none e.0)
