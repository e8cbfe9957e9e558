-- Rows of a file get one verdict.
use Rattle.std.specs.Prelude.{◌≡◌, ℕ, ◌<◌, ◌≤◌}
use Rattle.std.proofs.Common.{refl, sym, ◌∙◌, ap, subst, inl, inr, arith, mod-eq_of_lt}
use Rattle.std.proofs.lemmas.Bool.{cases_order}
use Rattle.linear_model.specs.Rows.{SameRow}
use Rattle.linear_model.specs.Reduced.{IsReduced}
use Rattle.linear_model.proofs.ForwardLists.{reduced_is_forward, normal_form_unique}
use Rattle.column_order.specs.Columns.{ColumnList}
use Rattle.table_model.specs.Conversion.{IsTable, Converts}
use Rattle.table_model.specs.ListedSpan.{values_of, count_of}
use Rattle.table_model.specs.Complete.{Evaluates, IsPolynomial}
use Rattle.table_model.specs.Faults.{IsReducedAt, LeavesNothing, AllEvaluate, Verdict, IsVerdict}
use Rattle.table_model.specs.Faults.Verdict.{Whole, NoInverse, BadRow, NotReduced, Missing}
use Rattle.table_model.proofs.RowWords.{cols_unique}
use Rattle.table_model.proofs.FirstFaults.{not_invertible_unique, not_invertible_word, first_without_unique, reduced_everywhere}

stage : Verdict → ℕ
stage (NoInverse u r) = 0
stage (BadRow i) = 1
stage (NotReduced i) = 2
stage (Missing n rest) = 3
stage Whole = 4

module _ (m : ℕ) (columns : ColumnList) (count : ℕ) (lead : ℕ → ℕ) (rows combinations : ℕ → ℕ → ℕ) where
  abbrev Is : Verdict → Type 0
  Is v = IsVerdict m columns count lead rows combinations v

  -- the tests in their order
  record Passes (k : ℕ) : Type 0 where
    converts : 0 < k → Converts m columns
    evaluate : 1 < k → AllEvaluate m columns count rows combinations
    reduced : 2 < k → IsReduced m count lead rows
    leave : 3 < k → (n : ℕ) → n < count_of columns → LeavesNothing m columns count lead rows n

  passes : (v : Verdict) → Is v → Passes (stage v)
  unfolding stage
  passes (NoInverse u r) h = record {
    converts = λ l. absurd (omega arith);
    evaluate = λ l. absurd (omega arith);
    reduced =
        λ l. absurd (omega arith);
    leave = λ l. absurd (omega arith);
  }
  passes (BadRow i) h = record {
    converts = λ l. h.0;
    evaluate = λ l. absurd (omega arith);
    reduced = λ l. absurd (omega arith);
    leave =
        λ l. absurd (omega arith);
  }
  passes (NotReduced i) h = record { converts = λ l. h.0; evaluate = λ l. h.1; reduced = λ l. absurd (omega arith); leave = λ l. absurd (omega arith) }
  passes (Missing n rest) h = record { converts = λ l. h.0; evaluate = λ l. h.1; reduced = λ l. h.2; leave = λ l. absurd (omega arith) }
  passes Whole h = record { converts = λ l. h.converts; evaluate = λ l. h.evaluates; reduced = λ l. h.reduced; leave = λ l n. h.nothing_missing n }

  -- what passes the tests behind that of a verdict does not have it
  fails : (v : Verdict) → Is v → (k : ℕ) → stage v < k → k ≤ 4 → Passes k → ⊥
  unfolding stage
  fails (NoInverse u r) h k l b p = not_invertible_word m columns u r h (p.converts (omega arith))
  fails (BadRow i) h k l b p = let f = h.1 in f.lacks (p.evaluate (omega arith) i f.below)
  fails (NotReduced i) h k l b p = let f = h.2 in f.lacks (reduced_everywhere m count lead rows (p.reduced (omega arith)) i f.below)
  fails (Missing n rest) h k l b p = let f = h.3 in f.lacks (p.leave (omega arith) n f.below)
  fails Whole h k l b p = absurd (omega arith)

  bounded : (v : Verdict) → stage v ≤ 4
  unfolding stage
  bounded (NoInverse u r) = omega arith
  bounded (BadRow i) = omega arith
  bounded (NotReduced i) = omega arith
  bounded (Missing n rest) = omega arith
  bounded Whole = omega arith

  one_stage : (v w : Verdict) → Is v → Is w → stage v ≡ stage w
  one_stage v w hv hw = elim (cases_order (stage v) (stage w)) [
    | inl e ↦ e
    | inr o ↦ elim o [
      | inl l ↦ absurd (fails v hv (stage w) l (bounded w) (passes w hw))
      | inr l ↦ absurd (fails w hw (stage v) l (bounded v) (passes v hv))
    ]
  ]

  module _ (table : IsTable m columns) where
    -- rows of residues below m that are the same are equal
    equal_rests : (p q : ℕ → ℕ) → SameRow m p q → ((col : ℕ) → p col < m) → ((col : ℕ) → q col < m) → p ≡ q
    equal_rests p q e bp bq = λ i col. at col i
      where
        at : (col : ℕ) → p col ≡ q col
        at col = sym (mod-eq_of_lt (bp col)) ∙ e col ∙ mod-eq_of_lt (bq col)

    polynomials_agree : Converts m columns → IsReduced m count lead rows → (n : ℕ) (p q : ℕ → ℕ)
        → IsPolynomial m columns count lead rows (values_of m columns n) p → IsPolynomial m columns count lead rows (values_of m columns n) q
        → SameRow m p q
    polynomials_agree converts reduced n p q hp hq =
        let same : SameRow m hq.cols hp.cols = cols_unique m columns table converts (values_of m columns n) hq.cols hp.cols hq.is_cols hp.is_cols in
        let left = hp.left in
        normal_form_unique m count lead rows (omega (arith, table.modulus)) (reduced_is_forward m count lead rows reduced) hq.cols p q
        (record { zero_at_leads = left.zero_at_leads; coefficients = left.coefficients; differs = λ col. same col ∙ left.differs col }) hq.left

    agree : (v w : Verdict) → stage v ≡ stage w → Is v → Is w → v ≡ w
    unfolding stage
    agree Whole Whole e hv hw = refl
    agree (NoInverse u r) (NoInverse v s) e hv hw = let t : (u ≡ v) × (r ≡ s) = not_invertible_unique m columns u v r s hv hw in
        λ i. NoInverse (t.0 i) (t.1 i)
    agree (BadRow i) (BadRow k) e hv hw = ap BadRow (first_without_unique (λ j. Evaluates m columns (rows j) (combinations j)) count i k hv.1 hw.1)
    agree (NotReduced i) (NotReduced k) e hv hw = ap NotReduced (first_without_unique (IsReducedAt m count lead rows) count i k hv.2 hw.2)
    agree (Missing n p) (Missing k q) e hv hw =
        let same : n ≡ k = first_without_unique (LeavesNothing m columns count lead rows) (count_of columns) n k hv.3 hw.3 in
        let rests : p ≡ q = equal_rests p q
        (polynomials_agree hv.0 hv.2 k p q (subst (λ x. IsPolynomial m columns count lead rows (values_of m columns x) p) same hv.4) hw.4) hv.5 hw.5 in
        λ i. Missing (same i) (rests i)
    agree v w e hv hw = absurd (omega (arith, e))

    pub verdict_unique : (v w : Verdict) → IsVerdict m columns count lead rows combinations v → IsVerdict m columns count lead rows combinations w → v ≡ w
    verdict_unique v w hv hw = agree v w (one_stage v w hv hw) hv hw
