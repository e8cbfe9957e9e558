-- Each sum of words of a table has one polynomial, whatever list its reduced rows are.
use Rattle.std.specs.Prelude.{◌≡◌, ℕ, ◌+◌, ◌%◌, ◌<◌}
use Rattle.std.proofs.Common.{sym, ◌∙◌, ap, arith}
use Rattle.zeta_model.specs.Sums.{Sum}
use Rattle.zeta_model.proofs.ModularLemmas.{same-add_left}
use Rattle.linear_model.specs.Rows.{combination, SameRow}
use Rattle.linear_model.specs.Reduced.{IsReduced, IsNormalForm}
use Rattle.linear_model.proofs.ForwardLists.{reduced_is_forward, normal_form_unique}
use Rattle.linear_model.proofs.Sweeps.{normal_form_exists}
use Rattle.column_order.specs.Columns.{ColumnList}
use Rattle.table_model.specs.Conversion.{IsTable, IsTableSum, Converts, IsOver}
use Rattle.table_model.specs.ReducedRows.{IsReducedRows}
use Rattle.table_model.specs.Complete.{IsPolynomial}
use Rattle.linear_model.proofs.NormalForms.{other_normal_form}
use Rattle.table_model.proofs.RowWords.{combination-over, cols_unique, cols_exist}
use Rattle.table_model.proofs.ReducedRowsLaws.{one_span}

module _ (m : ℕ) (columns : ColumnList) (table : IsTable m columns) (converts : Converts m columns) where
  pub polynomial_exists : (count : ℕ) (lead : ℕ → ℕ) (rows : ℕ → ℕ → ℕ) → IsReduced m count lead rows → (s : Sum) → IsTableSum m columns s
      → (q : ℕ → ℕ) × IsPolynomial m columns count lead rows s q
  polynomial_exists count lead rows reduced s within =
      let (p, is) = cols_exist m columns table converts s within in
      let (q, left) = normal_form_exists m lead rows count p (omega (arith, table.modulus)) (reduced_is_forward m count lead rows reduced) in
      (q, record { cols = p; is_cols = is; left = left })

  -- polynomials by two lists of reduced rows are the same
  pub polynomial_unique : (sums : ℕ → Sum) (n count k : ℕ) (lead other_lead : ℕ → ℕ) (rows others : ℕ → ℕ → ℕ)
      → IsReducedRows m columns sums n count lead rows → IsReducedRows m columns sums n k other_lead others
      → (s : Sum) (q r : ℕ → ℕ) → IsPolynomial m columns count lead rows s q → IsPolynomial m columns k other_lead others s r → SameRow m q r
  polynomial_unique sums n count k lead other_lead rows others h g s q r hq hr =
      let big : 1 < m = omega (arith, table.modulus) in
      let same : SameRow m hr.cols hq.cols = cols_unique m columns table converts s hr.cols hq.cols hr.is_cols hq.is_cols in
      let moved : IsNormalForm m k other_lead others hq.cols q =
      other_normal_form m count k lead other_lead rows others big h.reduced g.reduced
      (one_span m columns table sums n count k lead other_lead rows others h g) hq.cols q hq.left in
      normal_form_unique m k other_lead others (omega (arith, table.modulus)) (reduced_is_forward m k other_lead others g.reduced) hr.cols q r
      (record { zero_at_leads = moved.zero_at_leads; coefficients = moved.coefficients; differs = λ col. same col ∙ moved.differs col }) hr.left

  -- so are polynomials by one reduced list
  pub polynomials_same : (count : ℕ) (lead : ℕ → ℕ) (rows : ℕ → ℕ → ℕ) → IsReduced m count lead rows → (s : Sum) (q r : ℕ → ℕ)
      → IsPolynomial m columns count lead rows s q → IsPolynomial m columns count lead rows s r → SameRow m q r
  polynomials_same count lead rows reduced s q r hq hr =
      let same : SameRow m hr.cols hq.cols = cols_unique m columns table converts s hr.cols hq.cols hr.is_cols hq.is_cols in
      let left = hq.left in
      normal_form_unique m count lead rows (omega (arith, table.modulus)) (reduced_is_forward m count lead rows reduced) hr.cols q r
      (record { zero_at_leads = left.zero_at_leads; coefficients = left.coefficients; differs = λ col. same col ∙ left.differs col }) hr.left

-- a polynomial lies over the columns
pub polynomial_over : (m : ℕ) (columns : ColumnList) (count : ℕ) (lead : ℕ → ℕ) (rows : ℕ → ℕ → ℕ) → ((i : ℕ) → i < count → IsOver m columns (rows i))
    → (s : Sum) (q : ℕ → ℕ) → IsPolynomial m columns count lead rows s q → IsOver m columns q
polynomial_over m columns count lead rows over s q p col past =
    let c = p.is_cols in
    ap (λ x. x % m) (let t : q col ≡ q col + 0 = omega arith in t)
    ∙ same-add_left m 0 (combination count rows p.left.coefficients col) (q col)
    (sym (combination-over m columns count rows p.left.coefficients over col past))
    ∙ sym (p.left.differs col) ∙ c.over col past
