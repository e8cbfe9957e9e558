-- The rows that are merged are one list.
use Rattle.std.specs.Prelude.{◌≡◌, ℕ, ◌+◌, ◌<◌, true, List, [], ◌∷◌, length, get_or, All, cond}
use Rattle.std.proofs.Common.{eqb, refl, sym, ◌∙◌, ap, subst, inl, inr, arith, mod-eq_of_lt}
use Rattle.std.proofs.lemmas.Bool.{cases_order}
use Rattle.std.proofs.lemmas.Bool.Decides.{nat_tests}
use Rattle.std.proofs.lemmas.List.{ext_get_or}
use Rattle.std.proofs.lemmas.List.Elements.{All-head, All-tail}
use Rattle.linear_model.specs.Rows.{SameRow}
use Rattle.sparse_rows.specs.Entries.{entry_of, IsRow, AllIn}
use Rattle.sparse_rows.proofs.EntryLemmas.{entry_of_before, entry_of_first}
use Rattle.sparse_rows.proofs.SameRows.{same_row}
use Rattle.column_order.specs.Columns.{ColumnList}
use Rattle.echelon.specs.Lists.{row_at, lead_at}
use Rattle.page_rows.specs.Written.{AreResidues}
use Rattle.table_model.specs.Conversion.{IsTable}
use Rattle.table_model.specs.ListedSpan.{values_of, count_of}
use Rattle.table_model.specs.ReducedRows.{IsReducedRows}
use Rattle.table_model.proofs.CompleteRows.{complete_is_reduced_rows}
use Rattle.table_model.proofs.ReducedRowsLaws.{reduced_rows_counts, reduced_rows_rows}
use Rattle.merge_runs.specs.Runs.{AreMerged}

each_in : (pairs : List (ℕ × ℕ)) → AllIn (λ (k : ℕ). true) pairs
each_in [] = tt
each_in (e ∷ es) = (refl, each_in es)

skipped : (a q x r : ℕ) → a < q → cond (eqb a q) x 0 + r ≡ r
skipped a q x r less = grind (arith, nat_tests)

-- residues are below the modulus at each number
entry_small : (m low : ℕ) (es : List (ℕ × ℕ)) → 0 < m → IsRow (λ k. k) 0 low es → All (λ (e : ℕ × ℕ). e.1 < m) es → (q : ℕ)
    → entry_of (λ k. k) (λ v. v) es q < m
entry_small m low [] pos row small q = pos
entry_small m low (e ∷ es) pos row small q = elim (cases_order e.0 q) [
  | inl same ↦ subst (λ v. v < m) (sym (entry_of_first (λ k. k) 0 (λ v. v) low e es row) ∙ ap (entry_of (λ k. k) (λ v. v) (e ∷ es)) same)
      (All-head (λ (x : ℕ × ℕ). x.1 < m) e es small)
  | inr o ↦ elim o [
    | inl less ↦ subst (λ v. v < m) (sym (skipped e.0 q e.1 (entry_of (λ k. k) (λ v. v) es q) less))
        (entry_small m (e.0 + 1) es pos row.2 (All-tail (λ (x : ℕ × ℕ). x.1 < m) e es small) q)
    | inr more ↦ subst (λ v. v < m) (sym (entry_of_before (λ k. k) 0 (λ v. v) e.0 q (e ∷ es) (omega arith, row.1, row.2) more)) pos
  ]
]

-- two lists of residues with the same entries are one
one_row : (m : ℕ) (p q : List (ℕ × ℕ)) → 0 < m → AreResidues (λ k. k) m p → AreResidues (λ k. k) m q
    → SameRow m (entry_of (λ k. k) (λ v. v) p) (entry_of (λ k. k) (λ v. v) q) → p ≡ q
one_row m p q pos x y same =
    same_row (λ k. k) (λ a b e. e) 0 (λ k. true) (λ v. v) m refl refl (λ a b s t e. e) 0 p q x.increasing y.increasing (each_in p) (each_in q)
    (λ n. sym (mod-eq_of_lt (entry_small m 0 p pos x.increasing x.below n)) ∙ same n ∙ mod-eq_of_lt (entry_small m 0 q pos y.increasing y.below n))

module _ (m : ℕ) (columns : ColumnList) (table : IsTable m columns) where
  -- merged rows are the reduced rows of all listed relations
  pub merged_reduced : (rows combinations : List (List (ℕ × ℕ))) → AreMerged m columns rows combinations
      → IsReducedRows m columns (values_of m columns) (count_of columns) (length rows) (lead_at rows) (row_at (λ v. v) rows)
  merged_reduced rows combinations are =
      complete_is_reduced_rows m columns table (length rows) (lead_at rows) (row_at (λ v. v) rows) (row_at (λ v. v) combinations) are.complete

  -- they are one list
  pub rows_once : (rows combinations others more : List (List (ℕ × ℕ))) → AreMerged m columns rows combinations → AreMerged m columns others more
      → rows ≡ others
  rows_once rows combinations others more x y =
      let a = merged_reduced rows combinations x in
      let b = merged_reduced others more y in
      let counts : length rows ≡ length others =
      reduced_rows_counts m columns table (values_of m columns) (count_of columns) (length rows) (length others) (lead_at rows) (lead_at others)
      (row_at (λ v. v) rows) (row_at (λ v. v) others) a b in
      ext_get_or [] rows others counts
      (λ i l. one_row m (get_or rows i []) (get_or others i []) (omega (arith, table.modulus)) (x.residues i l) (y.residues i (omega (arith, counts)))
      (reduced_rows_rows m columns table (values_of m columns) (count_of columns) (length rows) (length others) (lead_at rows) (lead_at others)
      (row_at (λ v. v) rows) (row_at (λ v. v) others) a b i l))
