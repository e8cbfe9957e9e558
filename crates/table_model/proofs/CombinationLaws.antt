-- Each row of the span has a combination over accepted numbers, and reduced rows with combinations are complete.
use Rattle.std.specs.Prelude.{◌≡◌, ◌≢◌, ℕ, zero, suc, ◌+◌, ◌*◌, ◌%◌, ◌<◌, ◌≤◌, cond, eqb, length}
use Rattle.std.proofs.Common.{refl, sym, ◌∙◌, ap, subst, inl, inr, arith}
use Rattle.std.proofs.lemmas.Bool.{cases_eq, eq-eqb, ne_eqb}
use Rattle.zeta_model.specs.Modular.{Same}
use Rattle.zeta_model.specs.Sums.{Sum, SameSum}
use Rattle.zeta_model.proofs.ModularLemmas.{same-add, same-add_left, same-mul_right}
use Rattle.linear_model.proofs.ForwardLists.{reduced_is_forward, in_span_iff}
use Rattle.linear_model.proofs.Totals.{same-total}
use Rattle.column_order.specs.Columns.{ColumnList}
use Rattle.table_model.specs.MonomialWords.{sum_combination, words_of_row}
use Rattle.table_model.specs.Conversion.{IsTable, IsTableSum, Converts}
use Rattle.table_model.specs.ListedSpan.{InSumSpan, values_of, count_of}
use Rattle.table_model.specs.ReducedRows.{IsReducedRows, IsRest, IsAccepted, IsForwardRow, IsCombination, IsUnbroken}
use Rattle.table_model.specs.Complete.{Evaluates, IsComplete}
use Rattle.table_model.proofs.Inverses.{lead_or_zero}
use Rattle.table_model.proofs.SumSpans.{same_in_span, sum_in_span, sum_span_through}
use Rattle.table_model.proofs.ReducedRowsLaws.{rest_over, rest_zero, rest_exists, f_listed}
use Rattle.table_model.proofs.ForwardRowLaws.{HasReducedRows, unbroken_has_rows}

-- where the sum of number n is in the span of the earlier ones, the span of one more is that of these
shorter_span : (m n : ℕ) (sums : ℕ → Sum) (s : Sum) → InSumSpan m n sums (sums n) → InSumSpan m (suc n) sums s → InSumSpan m n sums s
shorter_span m n sums s v h = sum_span_through m (suc n) n sums sums (λ i l. elim (cases_eq i n) [
  | inl e ↦ subst (λ x. InSumSpan m n sums (sums x)) (sym e) v
  | inr ne ↦ sum_in_span m n sums i (omega arith)
]) s h

module _ (m : ℕ) (columns : ColumnList) (table : IsTable m columns) (sums : ℕ → Sum) (within : (k : ℕ)
    → IsTableSum m columns (sums k)) (converts : Converts m columns) where
  -- c gives s over accepted numbers below n
  record Combines (n : ℕ) (s : Sum) (c : ℕ → ℕ) : Type 0 where
    accepted : (k : ℕ) → k < n → ¬ (IsAccepted m columns sums k) → Same m (c k) 0
    within_n : (k : ℕ) → n ≤ k → Same m (c k) 0
    evaluates : SameSum m s (sum_combination n sums c)

  combines : (n : ℕ) → IsUnbroken m columns sums n → (s : Sum) → InSumSpan m n sums s → (c : ℕ → ℕ) × Combines n s c
  combines zero whole s (e, is) = (λ _. 0, record { accepted = λ k l none. absurd (omega arith); within_n = λ k l. refl; evaluates = is })
  combines (suc n) whole s (e, is) = step (combines n below) (unbroken_has_rows m columns table sums within converts n below)
    where
      below : IsUnbroken m columns sums n
      below k l = whole k (omega arith)

      step : ((r : Sum) → InSumSpan m n sums r → (c : ℕ → ℕ) × Combines n r c) → HasReducedRows m columns table sums within converts n
          → (c : ℕ → ℕ) × Combines (suc n) s c
      step ih (count, lead, rows, h) =
          let rest : (q : ℕ → ℕ) × IsRest m columns sums n q = rest_exists m columns table sums within converts n count lead rows h in
          elim (lead_or_zero m rest.0 (length columns.list) (rest_over m columns table sums n rest.0 rest.1)) [
            | inl (col, leads) ↦
                let (c, b) = ih (sum_combination n sums e) (e, λ t. refl) in
                let d : ℕ → ℕ = λ k. cond (eqb k n) (e n) (c k) in
                let other : (k : ℕ) → k ≢ n → d k ≡ c k = λ k ne. ap (λ x. cond x (e n) (c k)) (ne_eqb k n ne) in
                let here : d n ≡ e n = ap (λ x. cond x (e n) (c n)) (eq-eqb n n refl) in
                let front : SameSum m (sum_combination n sums d) (sum_combination n sums c) =
                λ t. same-total m n _ _ (λ i l. ap (λ x. (x * sums i t) % m) (other i (omega arith))) in (
                  d,
                  record {
                    accepted = λ k l none. elim (cases_eq k n) [
                      | inl at ↦ absurd (none (subst (IsAccepted m columns sums) (sym at) (rest.0, rest.1, λ z. leads.here (z col))))
                      | inr ne ↦ ap (λ x. x % m) (other k ne) ∙ b.accepted k (omega arith) none
                    ];
                    within_n = λ k l. ap (λ x. x % m) (other k (omega arith)) ∙ b.within_n k (omega arith);
                    evaluates = λ t.
                        is t
                        ∙ same-add m (sum_combination n sums e t) (sum_combination n sums d t) (e n * sums n t) (d n * sums n t) (b.evaluates t
                        ∙ sym (front t)) (ap (λ x. (x * sums n t) % m) (sym here));
                  },
                )
            | inr none ↦
                let (c, b) = ih s (shorter_span m n sums s ((rest_zero m columns table sums n rest.0 rest.1).0 none) (e, is)) in (
                  c,
                  record {
                    accepted = λ k l no_one. elim (cases_eq k n) [
                      | inl at ↦ b.within_n k (omega arith)
                      | inr ne ↦ b.accepted k (omega arith) no_one
                    ];
                    within_n = λ k l. b.within_n k (omega arith);
                    evaluates = λ t.
                        b.evaluates t ∙ ap (λ x. x % m) (let z : sum_combination n sums c t ≡ sum_combination n sums c t + 0 = omega arith in z)
                        ∙ same-add_left m 0 (c n * sums n t) (sum_combination n sums c t)
                        (sym (same-mul_right m (c n) 0 (sums n t) (b.within_n n (omega arith))
                        ∙ ap (λ x. x % m) (let z : 0 * sums n t ≡ 0 = omega arith in z)));
                  },
                )
          ]

  -- a row with words in the span of the first n sums has a combination over accepted numbers below n
  pub combination_exists : (n : ℕ) → IsUnbroken m columns sums n → (p : ℕ → ℕ) → InSumSpan m n sums (words_of_row columns.list p)
      → (c : ℕ → ℕ) × IsCombination m columns sums n p c
  combination_exists n whole p h =
      let (c, b) = combines n whole (words_of_row columns.list p) h in
      (c, record { accepted = b.accepted; within = b.within_n; evaluates = b.evaluates })

  -- the words of the forward row of n are in the span of the first n + 1 sums
  pub forward_row_listed : (n : ℕ) (row : ℕ → ℕ) → IsForwardRow m columns sums n row → InSumSpan m (suc n) sums (words_of_row columns.list row)
  forward_row_listed n row f =
      let r = f.is_rest in
      f_listed m columns table sums within converts n r.count r.lead r.rows r.earlier row f

-- the reduced rows of all listed relations with combinations that give them are complete
pub reduced_rows_are_complete : (m : ℕ) (columns : ColumnList) → IsTable m columns → Converts m columns
    → (count : ℕ) (lead : ℕ → ℕ) (rows combinations : ℕ → ℕ → ℕ) → IsReducedRows m columns (values_of m columns) (count_of columns) count lead rows
    → ((i : ℕ) → i < count → Evaluates m columns (rows i) (combinations i)) → IsComplete m columns count lead rows combinations
reduced_rows_are_complete m columns table converts count lead rows combinations h each = record {
  converts = converts;
  reduced = h.reduced;
  over = h.over;
  evaluates = each;
  nothing_missing = λ n l q p.
      let c = p.is_cols in
      let listed : InSumSpan m (count_of columns) (values_of m columns) (words_of_row columns.list p.cols) =
      same_in_span m (count_of columns) (values_of m columns) (words_of_row columns.list p.cols) (values_of m columns n) c.words
      (sum_in_span m (count_of columns) (values_of m columns) n l) in
      (in_span_iff m count lead rows (omega (arith, table.modulus)) (reduced_is_forward m count lead rows h.reduced) p.cols q p.left).0
      ((h.whole p.cols c.over).1 listed);
}
