-- What is recorded for sums of rows.
use Rattle.std.specs.Prelude.{◌≡◌, ℕ, suc, ◌+◌, ◌*◌, ◌%◌, if◌then◌else◌, cond, eqb, [], ◌∷◌}
use Rattle.std.proofs.Common.{refl, sym, ◌∙◌, ap, inl, inr, arith}
use Rattle.std.proofs.lemmas.Bool.{cases_eq, eq-eqb, ne_eqb}
use Rattle.zeta_model.specs.Sums.{SameSum}
use Rattle.linear_model.specs.Rows.{combination, SameRow}
use Rattle.column_order.specs.Columns.{ColumnList}
use Rattle.echelon.specs.Lists.{entries_of}
use Rattle.table_model.specs.MonomialWords.{words_of_row}
use Rattle.table_model.specs.ReducedRows.{IsAccepted}
use Rattle.file_model.specs.Pages.{Work, IsWork}
use Rattle.file_model.proofs.Recorded.{recorded_same, recorded_combination, recorded_zero, recorded_own}
use Rattle.table_build.specs.Inner.{IsMadeOf}

module _ (m : ℕ) (columns : ColumnList) (work : Work) where
  -- the pair of a number and a residue
  pub one_pair : {E : Type 0} (value : E → ℕ) (n : ℕ) (e : E) (q : ℕ) → value e * cond (eqb q n) 1 0 ≡ entries_of value ((n, e) ∷ []) q
  one_pair value n e q = elim (cases_eq n q) [
    | inl is ↦ ap (λ b. value e * cond b 1 0) (eq-eqb q n (sym is)) ∙ (let z : value e * 1 ≡ value e + 0 = omega arith in z)
        ∙ ap (λ b. (if b then value e else 0) + 0) (sym (eq-eqb n q is))
    | inr ne ↦ ap (λ b. value e * cond b 1 0) (ne_eqb q n (λ x. ne (sym x))) ∙ (let z : value e * 0 ≡ 0 + 0 = omega arith in z)
        ∙ ap (λ b. (if b then value e else 0) + 0) (sym (ne_eqb n q ne))
  ]

  -- the forward row of an accepted number is made of the rows before it
  pub made_of : {E : Type 0} (value : E → ℕ) → IsWork m columns work → (n count : ℕ) (rows : ℕ → ℕ → ℕ) (p row uses : ℕ → ℕ) (scale : E)
      → IsAccepted m columns work.sums n → SameSum m (words_of_row columns.list p) (work.sums n)
      → SameRow m (work.beside (λ k. cond (eqb k n) 1 0)) (λ k. cond (eqb k n) 1 0)
      → SameRow m row (λ q. value scale * p q + combination count rows uses q)
      → IsMadeOf m columns work (suc n) count rows row (entries_of value ((n, scale) ∷ [])) uses
  made_of value is_work n count rows p row uses scale accepted words writes sum g each =
      recorded_same m columns work (suc n) (λ q. value scale * p q + combination count rows uses q) row
      (λ q. value scale * cond (eqb q n) 1 0 + combination count g uses q) (λ q. entries_of value ((n, scale) ∷ []) q + combination count g uses q)
      (λ q. sym (sum q)) (λ q. ap (λ x. (x + combination count g uses q) % m) (one_pair value n scale q))
      (recorded_combination m columns work is_work (suc n) (value scale) p (λ k. cond (eqb k n) 1 0)
      (recorded_same m columns work (suc n) p p (work.beside (λ k. cond (eqb k n) 1 0)) (λ k. cond (eqb k n) 1 0) (λ q. refl) writes
      (recorded_own m columns work n p accepted words)) count rows g uses each)

module _ (m : ℕ) (columns : ColumnList) (work : Work) (is_work : IsWork m columns work) (n : ℕ) where
  -- a row that is a sum of others is made of them alone
  pub made_of_rows : (count : ℕ) (rows : ℕ → ℕ → ℕ) (row uses : ℕ → ℕ) → SameRow m row (combination count rows uses)
      → IsMadeOf m columns work n count rows row (λ _. 0) uses
  made_of_rows count rows row uses same g each =
      recorded_same m columns work n (λ q. 0 * 0 + combination count rows uses q) row (λ q. 0 * 0 + combination count g uses q)
      (λ q. 0 + combination count g uses q)
      (λ q. ap (λ x. x % m) (omega arith) ∙ sym (same q)) (λ q. ap (λ x. x % m) (omega arith))
      (recorded_combination m columns work is_work n 0 (λ _. 0) (λ _. 0) (recorded_zero m columns work is_work n) count rows g uses each)
