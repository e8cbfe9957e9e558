-- What is found of the rows of a share is one verdict.
use Rattle.std.specs.Prelude.{◌≡◌, ℕ, ◌<◌}
use Rattle.std.proofs.Common.{refl, sym, ◌∙◌, ap, subst, arith, mod-eq_of_lt}
use Rattle.linear_model.specs.Rows.{SameRow}
use Rattle.linear_model.specs.Reduced.{IsReduced}
use Rattle.linear_model.proofs.ForwardLists.{reduced_is_forward, normal_form_unique}
use Rattle.column_order.specs.Columns.{ColumnList}
use Rattle.table_model.specs.Conversion.{IsTable, Converts}
use Rattle.table_model.specs.ListedSpan.{values_of, count_of}
use Rattle.table_model.specs.Complete.{IsPolynomial}
use Rattle.table_model.specs.Faults.{IsReducedAt, Verdict}
use Rattle.table_model.specs.Faults.Verdict.{Whole, NoInverse, BadRow, NotReduced, Missing}
use Rattle.table_model.proofs.RowWords.{cols_unique}
use Rattle.table_model.proofs.FirstFaults.{first_without_unique, reduced_everywhere}
use Rattle.share_model.specs.Dealing.{IsRowOfShare, LeavesNothingOfShare, IsShareVerdict}

module _ (m : ℕ) (columns : ColumnList) (table : IsTable m columns) (converts : Converts m columns) (index shares count : ℕ) (lead : ℕ → ℕ)
    (rows combinations : ℕ → ℕ → ℕ) where
  abbrev Is : Verdict → Type 0
  Is v = IsShareVerdict m columns index shares count lead rows combinations v

  -- rows of residues below m that are the same are equal
  equal_rests : (p q : ℕ → ℕ) → SameRow m p q → ((col : ℕ) → p col < m) → ((col : ℕ) → q col < m) → p ≡ q
  equal_rests p q e bp bq = λ i col. at col i
    where
      at : (col : ℕ) → p col ≡ q col
      at col = sym (mod-eq_of_lt (bp col)) ∙ e col ∙ mod-eq_of_lt (bq col)

  polynomials_agree : IsReduced m count lead rows → (n : ℕ) (p q : ℕ → ℕ) → IsPolynomial m columns count lead rows (values_of m columns n) p
      → IsPolynomial m columns count lead rows (values_of m columns n) q → SameRow m p q
  polynomials_agree reduced n p q hp hq =
      let same : SameRow m hq.cols hp.cols = cols_unique m columns table converts (values_of m columns n) hq.cols hp.cols hq.is_cols hp.is_cols in
      let left = hp.left in
      normal_form_unique m count lead rows (omega (arith, table.modulus)) (reduced_is_forward m count lead rows reduced) hq.cols p q
      (record { zero_at_leads = left.zero_at_leads; coefficients = left.coefficients; differs = λ col. same col ∙ left.differs col }) hq.left

  pub verdict_once : (v w : Verdict) → Is v → Is w → v ≡ w
  verdict_once Whole Whole x y = refl
  verdict_once Whole (NoInverse u r) x y = absurd y
  verdict_once Whole (BadRow k) x y = absurd (y.lacks (x.all k y.below))
  verdict_once Whole (NotReduced k) x y = let f = y.1 in absurd (f.lacks (reduced_everywhere m count lead rows x.reduced k f.below))
  verdict_once Whole (Missing n rest) x y = let f = y.2 in absurd (f.lacks (x.nothing_missing n f.below))
  verdict_once (NoInverse u r) w x y = absurd x
  verdict_once (BadRow i) Whole x y = absurd (x.lacks (y.all i x.below))
  verdict_once (BadRow i) (NoInverse u r) x y = absurd y
  verdict_once (BadRow i) (BadRow k) x y =
      ap BadRow (first_without_unique (λ j. IsRowOfShare m columns index shares (rows j) (combinations j)) count i k x y)
  verdict_once (BadRow i) (NotReduced k) x y = absurd (x.lacks (y.0 i x.below))
  verdict_once (BadRow i) (Missing n rest) x y = absurd (x.lacks (y.0 i x.below))
  verdict_once (NotReduced i) Whole x y = let f = x.1 in absurd (f.lacks (reduced_everywhere m count lead rows y.reduced i f.below))
  verdict_once (NotReduced i) (NoInverse u r) x y = absurd y
  verdict_once (NotReduced i) (BadRow k) x y = absurd (y.lacks (x.0 k y.below))
  verdict_once (NotReduced i) (NotReduced k) x y = ap NotReduced (first_without_unique (IsReducedAt m count lead rows) count i k x.1 y.1)
  verdict_once (NotReduced i) (Missing n rest) x y = let f = x.1 in absurd (f.lacks (reduced_everywhere m count lead rows y.1 i f.below))
  verdict_once (Missing n rest) Whole x y = let f = x.2 in absurd (f.lacks (y.nothing_missing n f.below))
  verdict_once (Missing n rest) (NoInverse u r) x y = absurd y
  verdict_once (Missing n rest) (BadRow k) x y = absurd (y.lacks (x.0 k y.below))
  verdict_once (Missing n rest) (NotReduced k) x y = let f = y.1 in absurd (f.lacks (reduced_everywhere m count lead rows x.1 k f.below))
  verdict_once (Missing n p) (Missing k q) x y =
      let same : n ≡ k = first_without_unique (LeavesNothingOfShare m columns index shares count lead rows) (count_of columns) n k x.2 y.2 in
      let rests : p ≡ q = equal_rests p q
      (polynomials_agree x.1 k p q (subst (λ a. IsPolynomial m columns count lead rows (values_of m columns a) p) same x.3) y.3) x.4 y.4 in
      λ i. Missing (same i) (rests i)
