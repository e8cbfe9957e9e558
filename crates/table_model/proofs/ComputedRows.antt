-- The computed normal form is the normal form, and the computed row of a sum is its row.
use Rattle.std.specs.Prelude.{◌≡◌, ℕ, ◌+◌, ◌-◌, ◌*◌, ◌%◌, ◌<◌, ◌⊎◌, cond, List, length}
use Rattle.std.proofs.Common.{sym, ◌∙◌, ap, subst, inl, inr, arith}
use Rattle.zeta_model.specs.declared.Letter.{Letter}
use Rattle.zeta_model.specs.Modular.{Same}
use Rattle.zeta_model.specs.Sums.{Sum, single}
use Rattle.zeta_model.proofs.ModularLemmas.{same-add_left, same-mul_left, same-opposite}
use Rattle.zeta_model.proofs.ProductWords.{single-other}
use Rattle.zeta_model.proofs.WordOrder.{same_word-itself}
use Rattle.linear_model.specs.Rows.{combination}
use Rattle.linear_model.specs.Reduced.{IsReduced, IsNormalForm}
use Rattle.linear_model.proofs.ReducedLists.{combination-lead}
use Rattle.linear_model.proofs.Totals.{total_one_term, total_vanishes}
use Rattle.column_order.specs.Columns.{ColumnList}
use Rattle.table_model.specs.MonomialWords.{sum_combination}
use Rattle.table_model.specs.Conversion.{IsTable, IsTableWord, IsTableSum, IsCols}
use Rattle.table_model.specs.Computed.{normal_form_of, cols_by}
use Rattle.table_model.proofs.TableColumns.{table_word_or_not, word_at, column_of_word, word_at-injective, word_of_table}
use Rattle.table_model.proofs.RowWords.{combination-is_cols}

pub normal_form_of-is : (m count : ℕ) (lead : ℕ → ℕ) (rows : ℕ → ℕ → ℕ) → 0 < m → IsReduced m count lead rows → (p : ℕ → ℕ)
    → IsNormalForm m count lead rows p (normal_form_of m count lead rows p)
normal_form_of-is m count lead rows pos reduced p = record {
  zero_at_leads = λ i l.
      same-add_left m ((m - 1) * combination count rows (λ k. p (lead k)) (lead i)) ((m - 1) * p (lead i)) (p (lead i))
      (same-mul_left m (combination count rows (λ k. p (lead k)) (lead i)) (p (lead i)) (m - 1)
      (combination-lead m count lead rows reduced (λ k. p (lead k)) i l))
      ∙ ap (λ x. x % m) (let e : p (lead i) + (m - 1) * p (lead i) ≡ 0 + p (lead i) + p (lead i) * (m - 1) = omega arith in e)
      ∙ same-opposite m 0 (p (lead i)) pos;
  coefficients = λ i. p (lead i);
  differs = λ col.
      let c : ℕ = combination count rows (λ i. p (lead i)) col in
      sym (same-opposite m (p col) c pos) ∙ ap (λ x. x % m) (let e : p col + c + c * (m - 1) ≡ p col + (m - 1) * c + c = grind arith in e);
}

module _ (m : ℕ) (columns : ColumnList) (table : IsTable m columns) where
  pub cols_by-is : (word_rows : ℕ → ℕ → ℕ)
      → ((col : ℕ) → col < length columns.list → IsCols m columns (single (word_at m columns table col)) (word_rows col))
      → (s : Sum) → IsTableSum m columns s → IsCols m columns s (cols_by columns.list word_rows s)
  cols_by-is word_rows each s within =
      let n : ℕ = length columns.list in
      let words : ℕ → Sum = λ col. single (word_at m columns table col) in
      let c : ℕ → ℕ = λ col. s (word_at m columns table col) in
      let row : IsCols m columns (sum_combination n words c) (combination n word_rows c) = combination-is_cols m columns n words word_rows c each in
      record { over = row.over; words = λ t. row.words t ∙ same t (table_word_or_not columns.weight columns.depth t) }
    where
      same : (t : List Letter) → IsTableWord columns.weight columns.depth t ⊎ ¬ (IsTableWord columns.weight columns.depth t)
          → Same m (sum_combination (length columns.list) (λ col. single (word_at m columns table col)) (λ col. s (word_at m columns table col)) t) (s t)
      same t (inl x) =
          let (col, l, e) = column_of_word m columns table t x in
          total_one_term m (length columns.list) (λ i. s (word_at m columns table i) * single (word_at m columns table i) t) col l
          (λ i li ne. let z : single (word_at m columns table i) t
          ≡ 0 = single-other (word_at m columns table i) t (λ q. ne (word_at-injective m columns table i col li l (sym q ∙ sym e))) in
          ap (λ x. (s (word_at m columns table i) * x) % m) z ∙ ap (λ x. x % m) (omega arith))
          ∙ (λ i. (s (e i) * single (e i) t) % m)
          ∙ ap (λ x. (s t * cond x 1 0) % m) (same_word-itself t) ∙ ap (λ x. x % m) (omega arith)
      same t (inr none) =
          total_vanishes m (length columns.list) (λ i. s (word_at m columns table i) * single (word_at m columns table i) t)
          (λ i li. let z : single (word_at m columns table i) t
          ≡ 0 = single-other (word_at m columns table i) t
          (λ q. none (subst (IsTableWord columns.weight columns.depth) (sym q) (word_of_table m columns table i li))) in
          ap (λ x. (s (word_at m columns table i) * x) % m) z ∙ ap (λ x. x % m) (omega arith))
          ∙ sym (within t none)
