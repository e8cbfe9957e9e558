-- What is told of the first relation of which rows leave something.
use Rattle.std.proofs.Common.{◌≡◌, ℕ, ◌<◌, Bool, true, List, length, sym, subst}
use Rattle.column_order.specs.Columns.{ColumnList}
use Rattle.echelon.specs.Lists.{entries_of, lead_at, row_at}
use Rattle.page_rows.specs.Written.{written}
use Rattle.page_rows.proofs.Writing.{entry_of-written, bound-written, residues-written}
use Rattle.table_model.specs.ListedSpan.{values_of}
use Rattle.table_model.specs.Complete.{IsPolynomial}
use Rattle.cert_checker.specs.Certified.{residues_at}
use Rattle.cert_checker.specs.Inner.{IsMissing, IsTold}
use Rattle.cert_checker.proofs.WhatIsLeft.{entry-below}

pub told-missing : {E : Type 0} (value : E → ℕ) (m : ℕ) (has : E → Bool) (nought : E) → 0 < m → has nought ≡ true → value nought ≡ 0
    → ((a : E) → has a ≡ true → value a < m) → ((a b : E) → has a ≡ true → has b ≡ true → value a ≡ value b → a ≡ b)
    → (columns : ColumnList) (rows : List (List (ℕ × E))) (n : ℕ) (rest : List (ℕ × E)) (pairs : List (ℕ × ℕ))
    → IsMissing m has value columns nought rows n rest → pairs ≡ written value rest → IsTold m columns (length rows) (lead_at rows) (row_at value rows) n pairs
told-missing value m has nought pos has_nought value_nought small injective columns rows n rest pairs is made =
    subst (IsTold m columns (length rows) (lead_at rows) (row_at value rows) n) (sym made) (record {
      first = is.first;
      polynomial = subst (λ (q : ℕ → ℕ). IsPolynomial m columns (length rows) (lead_at rows) (row_at value rows) (values_of m columns n) q)
          (sym same) is.polynomial;
      small = λ col. subst (λ x. x < m) (sym (entry_of-written (λ k. k) nought has value rest col))
          (entry-below value m has nought pos has_nought value_nought small injective rest col is.is_row is.in_ring);
      residues = residues-written (λ k. k) nought has value has_nought value_nought injective m small rest is.is_row is.in_ring;
      below = (bound-written (λ k. k) nought has value rest (length columns.list)).1 is.below;
    })
  where
    same : ◌≡◌ {A = ℕ → ℕ} (residues_at (written value rest)) (entries_of value rest)
    same = λ i col. entry_of-written (λ k. k) nought has value rest col i
