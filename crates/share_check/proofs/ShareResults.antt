-- What is found of rows of elements with their combinations, from what the single steps answer.
use Rattle.std.proofs.Common.{◌≡◌, ℕ, ◌<◌, Bool, true, Option, Some, None, List, [], length, get_or, subst, arith}
use Rattle.std.specs.Prelude.{MatchOption}
use Rattle.linear_model.specs.Reduced.{IsReduced}
use Rattle.sparse_rows.specs.Entries.{IsBelow}
use Rattle.column_order.specs.Columns.{ColumnList}
use Rattle.echelon.specs.Lists.{lead_at, row_at}
use Rattle.echelon.specs.Finishes.{IsNotReducedAt}
use Rattle.table_model.specs.ListedSpan.{count_of}
use Rattle.table_model.specs.Faults.{IsFirstWithout, IsReducedAt, NotReduced, Missing}
use Rattle.cert_checker.specs.Certified.{residues_at}
use Rattle.cert_checker.specs.Verdicts.{AreWithin}
use Rattle.share_model.specs.Dealing.{AllOfShare, IsRowOfShare, LeavesNothingOfShare, IsShareResult, IsShareVerdict}
use Rattle.share_check.specs.Inner.{IsTold}
use Rattle.share_check.proofs.ReducedAt.{reduced-at, not-reduced-at}
use Rattle.share_check.proofs.RowsLeft.{row-over}

module _ {E : Type 0} (value : E → ℕ) (m : ℕ) (columns : ColumnList) (index shares : ℕ) where
  -- the first row that is not of the share, or all are
  abbrev pub Found : List (List (ℕ × E)) → List (List (ℕ × E)) → Option ℕ → Type 0
  Found rows combinations found =
      MatchOption found (AllOfShare m columns index shares (length rows) (row_at value rows) (row_at value combinations))
      (λ i. IsFirstWithout (λ k. IsRowOfShare m columns index shares (row_at value rows k) (row_at value combinations k)) (length rows) i)

  module _ (rows combinations lent lent_combinations : List (List (ℕ × E))) (same : lent ≡ rows) (same_combinations : lent_combinations ≡ combinations)
      (found : Option ℕ) (told : Found lent lent_combinations found) where
    owned : Found rows combinations found
    owned = subst (λ rs. Found rs combinations found) same (subst (λ cs. Found lent cs found) same_combinations told)

    pub is_bad : (j i : ℕ) → found ≡ Some j → j ≡ i
        → IsFirstWithout (λ k. IsRowOfShare m columns index shares (row_at value rows k) (row_at value combinations k)) (length rows) i
    is_bad j i is e =
        subst (IsFirstWithout (λ k. IsRowOfShare m columns index shares (row_at value rows k) (row_at value combinations k)) (length rows)) e
        (subst (Found rows combinations) is owned)

    pub are_good : found ≡ None → AllOfShare m columns index shares (length rows) (row_at value rows) (row_at value combinations)
    are_good is = subst (Found rows combinations) is owned

  module _ (rows : List (List (ℕ × E))) (combinations : ℕ → ℕ → ℕ)
      (all : AllOfShare m columns index shares (length rows) (row_at value rows) combinations) where
    pub is_not_reduced : (has : E → Bool) (nought : E) → 1 < m → has nought ≡ true → value nought ≡ 0
        → ((a : E) → has a ≡ true → value a < m) → ((a b : E) → has a ≡ true → has b ≡ true → value a ≡ value b → a ≡ b)
        → (high : ℕ) → AreWithin nought has high rows → (j i : ℕ) → j < length rows
        → IsNotReducedAt value rows j × ((k : ℕ) → k < j → ¬ (IsNotReducedAt value rows k)) → j ≡ i
        → IsShareVerdict m columns index shares (length rows) (lead_at rows) (row_at value rows) combinations (NotReduced i)
    is_not_reduced has nought big has_nought value_nought small injective high within j i inside told e = (
      all,
      subst (IsFirstWithout (IsReducedAt m (length rows) (lead_at rows) (row_at value rows)) (length rows)) e (record {
        below = inside;
        lacks = not-reduced-at value m has nought big has_nought value_nought small injective high rows within j inside told.0;
        earlier = λ k l. reduced-at value m has nought big has_nought value_nought small injective high rows within k (omega (arith, l, inside)) (told.1 k l);
      }),
    )

    module _ (list : List (List (ℕ × E))) (same : list ≡ rows) (reduced : IsReduced m (length list) (lead_at list) (row_at value list)) where
      are_reduced : IsReduced m (length rows) (lead_at rows) (row_at value rows)
      are_reduced = subst (λ xs. IsReduced m (length xs) (lead_at xs) (row_at value xs)) same reduced

      pub is_result : ((i : ℕ) → i < length rows → IsBelow (λ k. k) (length columns.list) (get_or rows i []))
          → ((n : ℕ) → n < count_of columns → LeavesNothingOfShare m columns index shares (length list) (lead_at list) (row_at value list) n)
          → IsShareResult m columns index shares (length rows) (lead_at rows) (row_at value rows) combinations
      is_result below nothing = record {
        reduced = are_reduced;
        over = λ i l. row-over value m columns (get_or rows i []) (below i l);
        all = all;
        nothing_missing = subst (λ xs. (n : ℕ) → n < count_of columns
            → LeavesNothingOfShare m columns index shares (length xs) (lead_at xs) (row_at value xs) n) same nothing;
      }

      pub is_missing : (j n : ℕ) (pairs rest : List (ℕ × ℕ)) → j ≡ n → pairs ≡ rest
          → IsTold m columns index shares (length list) (lead_at list) (row_at value list) j pairs
          → IsShareVerdict m columns index shares (length rows) (lead_at rows) (row_at value rows) combinations (Missing n (residues_at rest))
      is_missing j n pairs rest place made told =
          let here : IsTold m columns index shares (length rows) (lead_at rows) (row_at value rows) n rest =
          subst (λ xs. IsTold m columns index shares (length xs) (lead_at xs) (row_at value xs) n rest) same
          (subst (λ k. IsTold m columns index shares (length list) (lead_at list) (row_at value list) k rest) place
          (subst (IsTold m columns index shares (length list) (lead_at list) (row_at value list) j) made told)) in
          (all, are_reduced, here.first, here.polynomial, here.small)
