-- The polynomial of a sum of words is the sum of those of the words.
use Rattle.std.specs.Prelude.{◌≡◌, ℕ, zero, suc, ◌+◌, ◌*◌, ◌%◌, ◌<◌, ◌≤◌, ◌⊎◌, length}
use Rattle.std.proofs.Common.{refl, sym, ap, ◌∙◌, inl, inr, arith}
use Rattle.std.proofs.lemmas.Bool.{cases_lt}
use Rattle.zeta_model.specs.Sums.{Sum, single}
use Rattle.zeta_model.specs.Modular.{Same}
use Rattle.zeta_model.proofs.ModularLemmas.{same-add, same-add_right, same-mod, same-mul_left}
use Rattle.linear_model.specs.Rows.{combination}
use Rattle.linear_model.specs.Reduced.{IsNormalForm}
use Rattle.linear_model.proofs.Totals.{total-zero, total_alike}
use Rattle.linear_model.proofs.Combinations.{combination-add, combination-scaled}
use Rattle.lyndon_words.specs.Lyndon.{joined}
use Rattle.column_order.specs.Columns.{ColumnList}
use Rattle.table_model.specs.MonomialWords.{column_at}
use Rattle.table_model.specs.Computed.{cols_by}
use Rattle.table_model.specs.Conversion.{IsTable, IsTableSum, IsCols}
use Rattle.table_model.specs.Complete.{IsPolynomial}
use Rattle.table_model.proofs.ComputedRows.{cols_by-is}

module _ (m count : ℕ) (lead : ℕ → ℕ) (rows : ℕ → ℕ → ℕ) where
  normal_form_none : IsNormalForm m count lead rows (λ _. 0) (λ _. 0)
  normal_form_none = record {
    zero_at_leads = λ i l. refl;
    coefficients = λ _. 0;
    differs = λ col.
        let none : combination count rows (λ _. 0) col ≡ 0 =
        total_alike count (λ i. 0 * rows i col) (λ _. 0) (λ i. let e : 0 * rows i col ≡ 0 = omega arith in e) ∙ total-zero count in
        ap (λ n. n % m) (let e : 0 ≡ 0 + combination count rows (λ _. 0) col = omega (arith, none) in e);
  }

  -- a normal form, and a multiple of another
  normal_form_more : (p q r s : ℕ → ℕ) (k : ℕ) → IsNormalForm m count lead rows p q → IsNormalForm m count lead rows r s
      → IsNormalForm m count lead rows (λ col. p col + k * r col) (λ col. q col + k * s col)
  normal_form_more p q r s k x y = record {
    zero_at_leads = λ i l.
        same-add m (q (lead i)) 0 (k * s (lead i)) (k * 0) (x.zero_at_leads i l) (same-mul_left m (s (lead i)) 0 k (y.zero_at_leads i l))
        ∙ ap (λ n. n % m) (let e : 0 + k * 0 ≡ 0 = omega arith in e);
    coefficients = λ i. x.coefficients i + k * y.coefficients i;
    differs = λ col.
        let a : ℕ = combination count rows x.coefficients col in
        let b : ℕ = combination count rows y.coefficients col in
        same-add m (p col) (q col + a) (k * r col) (k * (s col + b)) (x.differs col) (same-mul_left m (r col) (s col + b) k (y.differs col))
        ∙ ap (λ n. n % m) (let e : q col + a + k * (s col + b) ≡ q col + k * s col + (a + k * b) = grind arith in e)
        ∙ ap (λ n. (q col + k * s col + n) % m)
        (sym (combination-add count rows x.coefficients (λ i. k * y.coefficients i) col
        ∙ ap (λ n. a + n) (combination-scaled count k rows y.coefficients col)));
  }

  -- the normal form of a combination is that of the normal forms
  pub normal_form_sum : (n : ℕ) (c : ℕ → ℕ) (ps qs : ℕ → ℕ → ℕ) → ((i : ℕ) → i < n → IsNormalForm m count lead rows (ps i) (qs i))
      → IsNormalForm m count lead rows (combination n ps c) (combination n qs c)
  normal_form_sum zero c ps qs each = normal_form_none
  normal_form_sum (suc n) c ps qs each =
      normal_form_more (combination n ps c) (combination n qs c) (ps n) (qs n) (c n) (normal_form_sum n c ps qs (λ i l. each i (omega arith)))
      (each n (omega arith))

module _ (m : ℕ) (columns : ColumnList) (table : IsTable m columns) (count : ℕ) (lead : ℕ → ℕ) (rows forms : ℕ → ℕ → ℕ)
    (each : (col : ℕ) → col < length columns.list
    → IsPolynomial m columns count lead rows (single (joined (column_at columns.list col))) (forms col)) where
  -- the row of a column's word
  word_row : (col : ℕ) → (col < length columns.list) ⊎ (length columns.list ≤ col) → ℕ → ℕ
  word_row col (inl l) = let x : IsPolynomial m columns count lead rows (single (joined (column_at columns.list col))) (forms col) = each col l in x.cols
  word_row col (inr past) = λ _. 0

  word_row-is : (col : ℕ) → col < length columns.list → (t : (col < length columns.list) ⊎ (length columns.list ≤ col))
      → IsCols m columns (single (joined (column_at columns.list col))) (word_row col t)
  unfolding word_row
  word_row-is col h (inl l) =
      let x : IsPolynomial m columns count lead rows (single (joined (column_at columns.list col))) (forms col) = each col l in x.is_cols
  word_row-is col h (inr past) = absurd (omega arith)

  word_row-form : (col : ℕ) → col < length columns.list → (t : (col < length columns.list) ⊎ (length columns.list ≤ col))
      → IsNormalForm m count lead rows (word_row col t) (forms col)
  unfolding word_row
  word_row-form col h (inl l) = let x : IsPolynomial m columns count lead rows (single (joined (column_at columns.list col))) (forms col) = each col l in x.left
  word_row-form col h (inr past) = absurd (omega arith)

  pub sum_polynomial : (s : Sum) → IsTableSum m columns s → IsPolynomial m columns count lead rows s (cols_by columns.list forms s)
  sum_polynomial s within =
      let n : ℕ = length columns.list in
      let word_rows : ℕ → ℕ → ℕ = λ col. word_row col (cases_lt col n) in
      record {
        cols = cols_by columns.list word_rows s;
        is_cols = cols_by-is m columns table word_rows (λ col l. word_row-is col l (cases_lt col n)) s within;
        left = normal_form_sum m count lead rows n (λ col. s (joined (column_at columns.list col))) word_rows forms
            (λ col l. word_row-form col l (cases_lt col n));
      }

  -- so it is by residues
  pub residues_polynomial : (s : Sum) → IsTableSum m columns s → (p : ℕ → ℕ) → ((q : ℕ) → p q ≡ cols_by columns.list forms s q % m)
      → IsPolynomial m columns count lead rows s p
  residues_polynomial s within p is =
      let x : IsPolynomial m columns count lead rows s (cols_by columns.list forms s) = sum_polynomial s within in
      let left = x.left in
      let same : (q : ℕ) → Same m (p q) (cols_by columns.list forms s q) = λ q. ap (λ k. k % m) (is q) ∙ same-mod m (cols_by columns.list forms s q) in
      record {
        cols = x.cols;
        is_cols = x.is_cols;
        left = record {
          zero_at_leads = λ i l. same (lead i) ∙ left.zero_at_leads i l;
          coefficients = left.coefficients;
          differs = λ q. left.differs q
              ∙ same-add_right m (cols_by columns.list forms s q) (p q) (combination count rows left.coefficients q) (sym (same q));
        };
      }
