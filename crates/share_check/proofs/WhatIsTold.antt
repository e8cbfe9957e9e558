-- What is told of the first relation of a share of which rows leave something.
use Rattle.std.proofs.Common.{◌≡◌, ℕ, ◌%◌, ◌<◌, Bool, true, List, length, sym, ◌∙◌, ap, subst}
use Rattle.zeta_model.specs.declared.Letter.{Letter}
use Rattle.zeta_model.specs.Sums.{Sum}
use Rattle.zeta_model.proofs.ModularLemmas.{same-mod}
use Rattle.sparse_rows.specs.Entries.{IsRow, IsBelow, AllIn}
use Rattle.column_order.specs.Columns.{ColumnList}
use Rattle.echelon.specs.Lists.{entries_of}
use Rattle.page_rows.specs.Written.{written}
use Rattle.page_rows.proofs.Writing.{entry_of-written, bound-written, residues-written}
use Rattle.table_model.specs.Conversion.{IsTableSum, IsCols}
use Rattle.table_model.specs.ListedSpan.{values_of, count_of}
use Rattle.table_model.specs.Complete.{IsPolynomial}
use Rattle.cert_checker.specs.Certified.{residues_at}
use Rattle.share_model.specs.Dealing.{InShare, LeavesNothingOfShare}
use Rattle.share_check.specs.Inner.{IsTold}
use Rattle.share_check.proofs.RowsLeft.{entry-below, not-zero}

module _ (m : ℕ) (columns : ColumnList) (s u : Sum) (same : (t : List Letter) → s t ≡ u t % m) where
  -- a sum with the coefficients of a sum of the table, modulo m, is one of the table
  pub same_table_sum : IsTableSum m columns u → IsTableSum m columns s
  same_table_sum table t other = ap (λ x. x % m) (same t) ∙ same-mod m (u t) ∙ table t other

  -- it has the polynomial of the other
  pub same_polynomial : (count : ℕ) (lead : ℕ → ℕ) (rows : ℕ → ℕ → ℕ) (q : ℕ → ℕ) → IsPolynomial m columns count lead rows s q
      → IsPolynomial m columns count lead rows u q
  same_polynomial count lead rows q is = record { cols = is.cols; is_cols = cols; left = is.left }
    where
      cols : IsCols m columns u is.cols
      cols = let c = is.is_cols in record { over = c.over; words = λ t. c.words t ∙ ap (λ x. x % m) (same t) ∙ same-mod m (u t) }

module _ {E : Type 0} (value : E → ℕ) (m : ℕ) (has : E → Bool) (nought : E) (pos : 0 < m) (has_nought : has nought ≡ true) (value_nought : value nought ≡ 0)
    (small : (a : E) → has a ≡ true → value a < m) (injective : (a b : E) → has a ≡ true → has b ≡ true → value a ≡ value b → a ≡ b)
    (columns : ColumnList) (index shares count : ℕ) (lead : ℕ → ℕ) (rows : ℕ → ℕ → ℕ) (n : ℕ) (rest : List (ℕ × E))
    (polynomial : IsPolynomial m columns count lead rows (values_of m columns n) (entries_of value rest)) where
  pub told : (pairs : List (ℕ × ℕ)) → pairs ≡ written value rest → n < count_of columns → InShare index shares n
      → ((k : ℕ) → k < n → LeavesNothingOfShare m columns index shares count lead rows k)
      → 0 < length rest → IsRow (λ k. k) nought 0 rest → AllIn has rest → IsBelow (λ k. k) (length columns.list) rest
      → IsTold m columns index shares count lead rows n pairs
  told pairs made inside in_share earlier some row in_ring below =
      subst (IsTold m columns index shares count lead rows n) (sym made) (record {
        first = record {
          below = inside;
          lacks = λ leaves.
              not-zero value m has nought pos has_nought value_nought small injective rest some row in_ring
              (leaves in_share (entries_of value rest) polynomial);
          earlier = earlier;
        };
        polynomial = subst (λ (q : ℕ → ℕ). IsPolynomial m columns count lead rows (values_of m columns n) q) (sym same) polynomial;
        small = λ col. subst (λ x. x < m) (sym (entry_of-written (λ k. k) nought has value rest col))
            (entry-below value m has nought pos has_nought value_nought small injective rest col row in_ring);
        residues = residues-written (λ k. k) nought has value has_nought value_nought injective m small rest row in_ring;
        below = (bound-written (λ k. k) nought has value rest (length columns.list)).1 below;
      })
    where
      same : ◌≡◌ {A = ℕ → ℕ} (residues_at (written value rest)) (entries_of value rest)
      same = λ i col. entry_of-written (λ k. k) nought has value rest col i
