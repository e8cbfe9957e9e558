-- Rows of a list that are evaluated one after the other.
use Rattle.std.proofs.Common.{◌≡◌, ℕ, ◌+◌, ◌<◌, ◌⊎◌, inl, inr, Bool, List, [], get_or, sym, subst, arith}
use Rattle.std.specs.Prelude.{◌↔◌, IsTrue}
use Rattle.std.proofs.lemmas.Bool.{cases_eq}
use Rattle.column_order.specs.Columns.{ColumnList}
use Rattle.echelon.specs.Lists.{entries_of, row_at}
use Rattle.table_model.specs.Complete.{Evaluates}

-- what is told of a row and a combination of lists, by a ring that is this one
pub told-of : {R E : Type 0} (modulus : R → ℕ) (value : R → E → ℕ) (columns : ColumnList) (kept ring : R) → kept ≡ ring
    → (b : Bool) (rows combinations : List (List (ℕ × E))) (i : ℕ) (row combination : List (ℕ × E)) → row ≡ get_or rows i []
    → combination ≡ get_or combinations i []
    → (IsTrue b ↔ Evaluates (modulus kept) columns (entries_of (value kept) row) (entries_of (value kept) combination))
    → IsTrue b ↔ Evaluates (modulus ring) columns (row_at (value ring) rows i) (row_at (value ring) combinations i)
told-of modulus value columns kept ring rings b rows combinations i row combination row_is combination_is told =
    subst (λ es. IsTrue b ↔ Evaluates (modulus ring) columns (row_at (value ring) rows i) (entries_of (value ring) es)) combination_is
    (subst (λ es. IsTrue b ↔ Evaluates (modulus ring) columns (entries_of (value ring) es) (entries_of (value ring) combination)) row_is
    (subst (λ r. IsTrue b ↔ Evaluates (modulus r) columns (entries_of (value r) row) (entries_of (value r) combination)) rings told))

-- what holds below a place and there holds below the next
pub each-more : (P : ℕ → Type 0) (i : ℕ) → ((k : ℕ) → k < i → P k) → P i → (k : ℕ) → k < i + 1 → P k
each-more P i before here k l = by (cases_eq k i)
  where
    by : (k ≡ i) ⊎ ¬ (k ≡ i) → P k
    by (inl e) = subst P (sym e) here
    by (inr ne) = before k (omega arith)
