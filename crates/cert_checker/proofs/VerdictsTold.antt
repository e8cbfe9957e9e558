-- Verdicts, from what was found of rows that were lent, and of the list that was made of them.
use Rattle.std.proofs.Common.{◌≡◌, ℕ, ◌<◌, Option, Some, None, List, [], length, get_or, subst}
use Rattle.std.specs.Prelude.{MatchOption}
use Rattle.linear_model.specs.Reduced.{IsReduced}
use Rattle.sparse_rows.specs.Entries.{IsBelow}
use Rattle.column_order.specs.Columns.{ColumnList}
use Rattle.echelon.specs.Lists.{lead_at, row_at}
use Rattle.table_model.specs.Conversion.{Converts}
use Rattle.table_model.specs.ListedSpan.{count_of}
use Rattle.table_model.specs.Complete.{Evaluates}
use Rattle.table_model.specs.Faults.{IsFirstWithout, IsReducedAt, AllEvaluate, LeavesNothing, Whole, BadRow, NotReduced, Missing}
use Rattle.cert_checker.specs.Certified.{residues_at}
use Rattle.cert_checker.specs.Verdicts.{IsVerdictOf}
use Rattle.cert_checker.specs.Inner.{IsTold}
use Rattle.cert_checker.proofs.WhatIsLeft.{row-over}

-- what is found of rows that were lent
abbrev pub Found : {E : Type 0} → (E → ℕ) → ℕ → ColumnList → List (List (ℕ × E)) → List (List (ℕ × E)) → Option ℕ → Type 0
Found value m columns combinations lent found =
    MatchOption found (AllEvaluate m columns (length lent) (row_at value lent) (row_at value combinations))
    (λ i. IsFirstWithout (λ k. Evaluates m columns (row_at value lent k) (row_at value combinations k)) (length lent) i)

module _ {E : Type 0} (value : E → ℕ) (m : ℕ) (columns : ColumnList) (converts : Converts m columns) (rows combinations : List (List (ℕ × E))) where
  pub bad-row : (lent : List (List (ℕ × E))) → lent ≡ rows → (found : Option ℕ) (j i : ℕ) → found ≡ Some j
      → Found value m columns combinations lent found → j ≡ i
      → IsVerdictOf m value columns rows combinations (BadRow i)
  bad-row lent same found j i is told e =
      let first : Found value m columns combinations rows (Some j) = subst (λ rs. Found value m columns combinations rs (Some j)) same (subst
      (Found value m columns combinations lent) is told) in
      (converts, subst (IsFirstWithout (λ k. Evaluates m columns (row_at value rows k) (row_at value combinations k)) (length rows)) e first)

  pub all-good : (lent : List (List (ℕ × E))) → lent ≡ rows → (found : Option ℕ) → found ≡ None → Found value m columns combinations lent found
      → AllEvaluate m columns (length rows) (row_at value rows) (row_at value combinations)
  all-good lent same found is told = subst (λ rs. Found value m columns combinations rs None) same (subst (Found value m columns combinations lent) is told)

  module _ (good : AllEvaluate m columns (length rows) (row_at value rows) (row_at value combinations)) where
    pub not-reduced : (j i : ℕ) → IsFirstWithout (IsReducedAt m (length rows) (lead_at rows) (row_at value rows)) (length rows) j → j ≡ i
        → IsVerdictOf m value columns rows combinations (NotReduced i)
    not-reduced j i first e = (converts, good, subst (IsFirstWithout (IsReducedAt m (length rows) (lead_at rows) (row_at value rows)) (length rows)) e first)

    module _ (list : List (List (ℕ × E))) (same : list ≡ rows) (reduced : IsReduced m (length list) (lead_at list) (row_at value list)) where
      are_reduced : IsReduced m (length rows) (lead_at rows) (row_at value rows)
      are_reduced = subst (λ xs. IsReduced m (length xs) (lead_at xs) (row_at value xs)) same reduced

      pub whole : ((i : ℕ) → i < length rows → IsBelow (λ k. k) (length columns.list) (get_or rows i []))
          → ((n : ℕ) → n < count_of columns → LeavesNothing m columns (length list) (lead_at list) (row_at value list) n)
          → IsVerdictOf m value columns rows combinations Whole
      whole below nothing = record {
        converts = converts;
        reduced = are_reduced;
        over = λ i l. row-over value m columns (get_or rows i []) (below i l);
        evaluates = good;
        nothing_missing =
            subst (λ xs. (n : ℕ) → n < count_of columns → LeavesNothing m columns (length xs) (lead_at xs) (row_at value xs) n) same nothing;
      }

      pub missing : (j n : ℕ) (pairs rest : List (ℕ × ℕ)) → j ≡ n → pairs ≡ rest → IsTold m columns (length list) (lead_at list) (row_at value list) j pairs
          → IsVerdictOf m value columns rows combinations (Missing n (residues_at rest))
      missing j n pairs rest place made told =
          let here : IsTold m columns (length rows) (lead_at rows) (row_at value rows) n rest =
          subst (λ xs. IsTold m columns (length xs) (lead_at xs) (row_at value xs) n rest) same
          (subst (λ k. IsTold m columns (length list) (lead_at list) (row_at value list) k rest) place
          (subst (IsTold m columns (length list) (lead_at list) (row_at value list) j) made told)) in
          (converts, good, are_reduced, here.first, here.polynomial, here.small)
