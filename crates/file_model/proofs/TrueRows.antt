-- Where the kept rows are the forward rows of the listed relations, with their combinations, the work that goes on from them is the work on
-- the listed relations.
use Rattle.std.specs.Prelude.{◌≡◌, ℕ, zero, suc, ◌+◌, ◌*◌, ◌%◌, ◌<◌, ◌≤◌, ◌⊎◌, if◌then◌else◌, List, length}
use Rattle.std.proofs.Common.{refl, sym, ◌∙◌, ap, subst, inl, inr, arith}
use Rattle.std.proofs.lemmas.Bool.{cases_eq, cases_lt, lt-ltb, le-ltb}
use Rattle.zeta_model.specs.Sums.{Sum}
use Rattle.zeta_model.proofs.ModularLemmas.{same-add, same-mul_left, same-mul_right}
use Rattle.linear_model.specs.Rows.{total, combination, SameRow}
use Rattle.column_order.specs.Columns.{ColumnList}
use Rattle.zeta_model.specs.declared.Letter.{Letter}
use Rattle.linear_model.proofs.Totals.{same-total}
use Rattle.table_model.specs.MonomialWords.{column_at, words_of_monomial, words_of_row}
use Rattle.table_model.specs.Conversion.{IsTable, IsTableSum, Converts}
use Rattle.table_model.specs.ListedSpan.{InSumSpan, values_of, count_of}
use Rattle.table_model.specs.ReducedRows.{IsRest, IsAccepted, IsForwardRow, IsCombination, IsUnbroken}
use Rattle.table_model.proofs.CompleteRows.{listed_value-table}
use Rattle.table_model.proofs.SumSpans.{sum_in_span, same_in_span, span_add, sum_span_through, sum_combination-add, sum_combination-scaled}
use Rattle.linear_model.proofs.Combinations.{combination-add}
use Rattle.linear_model.proofs.Combinations.{combination-scaled}
use Rattle.table_model.proofs.RowWords.{same-words_of_row, words_of_row-table, combination-over}
use Rattle.table_model.proofs.Inverses.{lead_or_zero}
use Rattle.table_model.proofs.ReducedRowsLaws.{rest_over, rest_zero, rest_exists}
use Rattle.table_model.proofs.CombinationLaws.{forward_row_listed}
use Rattle.table_model.proofs.ForwardRowLaws.{unbroken_has_rows, accepted_or_not}
use Rattle.file_model.specs.Pages.{Work, IsWork}
use Rattle.file_model.specs.Resuming.{Kept, written_of, resumed_work}

-- the kept rows are those of the work on the listed relations, which is not broken there
pub record IsTrueKept (m : ℕ) (columns : ColumnList) (kept : Kept) : Type 0 where
  pub unbroken : IsUnbroken m columns (values_of m columns) kept.below
  pub forward : (n : ℕ) → n < kept.below → IsAccepted m columns (values_of m columns) n → IsForwardRow m columns (values_of m columns) n (kept.rows n)
  pub combined : (n : ℕ) → n < kept.below → IsAccepted m columns (values_of m columns) n
      → IsCombination m columns (values_of m columns) (suc n) (kept.rows n) (kept.combinations n)
  pub none : (n : ℕ) → n < kept.below → ¬ (IsAccepted m columns (values_of m columns) n) → (col : ℕ) → kept.rows n col ≡ 0
  pub nothing : (n : ℕ) → n < kept.below → ¬ (IsAccepted m columns (values_of m columns) n) → (k : ℕ) → kept.combinations n k ≡ 0

module _ (m : ℕ) (columns : ColumnList) (table : IsTable m columns) (converts : Converts m columns) (kept : Kept) where
  abbrev pub vals : ℕ → Sum
  vals = values_of m columns

  abbrev pub work : Work
  work = resumed_work m columns kept

  abbrev pub words : (ℕ → ℕ) → Sum
  words p = words_of_row columns.list p

  pub sum_kept : (n : ℕ) → n < kept.below → work.sums n ≡ words (kept.rows n)
  sum_kept n l = ap (λ b. if b then words (kept.rows n) else vals n) (lt-ltb n kept.below l)

  pub sum_listed : (n : ℕ) → kept.below ≤ n → work.sums n ≡ vals n
  sum_listed n l = ap (λ b. if b then words (kept.rows n) else vals n) (le-ltb n kept.below l)

  pub sums_table : (n : ℕ) → IsTableSum m columns (work.sums n)
  sums_table n = elim (cases_lt n kept.below) [
    | inl l ↦ subst (IsTableSum m columns) (sym (sum_kept n l)) (words_of_row-table m columns table (kept.rows n))
    | inr l ↦ subst (IsTableSum m columns) (sym (sum_listed n l)) (listed_value-table m columns table n)
  ]

  pub is_resumed_work : IsWork m columns work
  is_resumed_work = record {
    sums = sums_table;
    beside = λ c d e j. same-total m (count_of columns) _ _ (λ k l. same-mul_right m (c k) (d k) (written_of kept k j) (e k));
    linear = λ a b c d j. ap (λ x. x % m) (combination-add (count_of columns) (written_of kept) (λ k. a * c k) (λ k. b * d k) j
        ∙ (λ z. combination-scaled (count_of columns) a (written_of kept) c j z + combination-scaled (count_of columns) b (written_of kept) d j z));
  }

  pub same_words : (n : ℕ) (p q : ℕ → ℕ) (sums : ℕ → Sum) → SameRow m p q → InSumSpan m n sums (words q) → InSumSpan m n sums (words p)
  same_words n p q sums e h = same_in_span m n sums (words p) (words q) (same-words_of_row m columns p q e) h

  words_of_two : (p q : ℕ → ℕ) (a b : ℕ) (t : List Letter) → words (λ col. a * p col + b * q col) t ≡ a * words p t + b * words q t
  words_of_two p q a b t =
      let ms : ℕ → Sum = λ col. words_of_monomial (column_at columns.list col) in
      sum_combination-add (length columns.list) ms (λ col. a * p col) (λ col. b * q col) t
      ∙ (λ z. sum_combination-scaled (length columns.list) ms a p t z + sum_combination-scaled (length columns.list) ms b q t z)

  -- two rows with words in a span, each times a number
  add_words : (n : ℕ) (sums : ℕ → Sum) (p q : ℕ → ℕ) (a b : ℕ) → InSumSpan m n sums (words p) → InSumSpan m n sums (words q)
      → InSumSpan m n sums (words (λ col. a * p col + b * q col))
  add_words n sums p q a b hp hq = same_in_span m n sums _ _ (λ t. ap (λ x. x % m) (words_of_two p q a b t)) (span_add m n sums (words p) (words q) a b hp hq)

  wider : (n k : ℕ) (sums : ℕ → Sum) (s : Sum) → n ≤ k → InSumSpan m n sums s → InSumSpan m k sums s
  wider n k sums s l h = sum_span_through m n k sums sums (λ i li. sum_in_span m k sums i (omega arith)) s h

  pub no_words : (n : ℕ) (sums : ℕ → Sum) (p : ℕ → ℕ) → SameRow m p (λ _. 0) → InSumSpan m n sums (words p)
  no_words n sums p z = (
    λ _. 0,
    λ t. same-words_of_row m columns p (λ _. 0) z t
        ∙ ap (λ x. x % m) (no_total (length columns.list) (λ col. words_of_monomial (column_at columns.list col) t) ∙ sym (no_total n (λ i. sums i t))),
  )
    where
      no_total : (n : ℕ) (f : ℕ → ℕ) → total n (λ i. 0 * f i) ≡ 0
      no_total zero f = refl
      no_total (suc n) f = omega (arith, no_total n f)

  module _ (true : IsTrueKept m columns kept) where
    -- number n below the bound is accepted or not
    pub decided : (n : ℕ) → n < kept.below → IsAccepted m columns vals n ⊎ ¬ (IsAccepted m columns vals n)
    decided n l = accepted_or_not m columns table vals (listed_value-table m columns table) converts n
        (unbroken_has_rows m columns table vals (listed_value-table m columns table) converts n (λ k lk. true.unbroken k (omega arith)))

    sum_is_listed : (n : ℕ) → InSumSpan m (suc n) vals (work.sums n)
    sum_is_listed n = elim (cases_lt n kept.below) [
      | inr l ↦ subst (InSumSpan m (suc n) vals) (sym (sum_listed n l)) (sum_in_span m (suc n) vals n (omega arith))
      | inl l ↦ subst (InSumSpan m (suc n) vals) (sym (sum_kept n l)) (elim (decided n l) [
        | inl is ↦ forward_row_listed m columns table vals (listed_value-table m columns table) converts n (kept.rows n) (true.forward n l is)
        | inr isnt ↦ no_words (suc n) vals (kept.rows n) (λ col. ap (λ x. x % m) (true.none n l isnt col))
      ])
    ]

    pub to_listed : (n : ℕ) (s : Sum) → InSumSpan m n work.sums s → InSumSpan m n vals s
    to_listed n s h = sum_span_through m n n work.sums vals (λ i l. wider (suc i) n vals (work.sums i) (omega arith) (sum_is_listed i)) s h

    -- the value of n is a multiple of its forward row and what the rows of the earlier ones give
    value_is_offered : (n : ℕ) → n < kept.below → ((s : Sum) → InSumSpan m n vals s → InSumSpan m n work.sums s) → InSumSpan m (suc n) work.sums (vals n)
    value_is_offered n l earlier = elim (decided n l) [
      | inr isnt ↦
          let (q, r) = rest n l in
          wider n (suc n) work.sums (vals n) (omega arith) (earlier (vals n) ((rest_zero m columns table vals n q r).0 (λ col. zero_or q r isnt col)))
      | inl is ↦
          let f = true.forward n l is in
          let r = f.is_rest in
          let e = r.earlier in let v = r.value in let left = r.left in
          let row : ℕ → ℕ = kept.rows n in
          let comb : ℕ → ℕ = combination r.count r.rows left.coefficients in
          let u : ℕ = f.rest f.col in
          let low : InSumSpan m (suc n) work.sums (words comb) =
          wider n (suc n) work.sums (words comb) (omega arith)
          (earlier (words comb) ((e.whole comb (combination-over m columns r.count r.rows left.coefficients e.over)).0 (left.coefficients, λ col. refl))) in
          let own : InSumSpan m (suc n) work.sums (words row) =
          subst (InSumSpan m (suc n) work.sums) (sum_kept n l) (sum_in_span m (suc n) work.sums n (omega arith)) in
          let both : SameRow m r.cols (λ j. u * row j + 1 * comb j) = λ j.
          left.differs j
          ∙ same-add m (f.rest j) (u * row j) (comb j) (1 * comb j)
          (ap (λ x. x % m) (let z : f.rest j ≡ 1 * f.rest j = omega arith in z) ∙ same-mul_right m 1 (u * f.inverse) (f.rest j) (sym f.inverts)
          ∙ ap (λ x. x % m) (let z : u * f.inverse * f.rest j ≡ u * (f.inverse * f.rest j) = omega arith in z)
          ∙ same-mul_left m (f.inverse * f.rest j) (row j) u (sym (f.is j)))
          (ap (λ x. x % m) (omega arith)) in
          same_in_span m (suc n) work.sums (vals n) (words r.cols) (λ t. sym (v.words t))
          (same_words (suc n) r.cols (λ j. u * row j + 1 * comb j) work.sums both (add_words (suc n) work.sums row comb u 1 own low))
    ]
      where
        rest : (n : ℕ) → n < kept.below → (q : ℕ → ℕ) × IsRest m columns vals n q
        rest n l =
            let (count, lead, rows, h) = unbroken_has_rows m columns table vals (listed_value-table m columns table) converts n
            (λ k lk. true.unbroken k (omega arith)) in
            rest_exists m columns table vals (listed_value-table m columns table) converts n count lead rows h

        zero_or : (q : ℕ → ℕ) → IsRest m columns vals n q → ¬ (IsAccepted m columns vals n) → SameRow m q (λ _. 0)
        zero_or q r isnt = elim (lead_or_zero m q (length columns.list) (rest_over m columns table vals n q r)) [
          | inr zeros ↦ zeros
          | inl (col, leads) ↦ absurd (isnt (q, r, λ z. leads.here (z col)))
        ]

    pub to_offered : (n : ℕ) (s : Sum) → InSumSpan m n vals s → InSumSpan m n work.sums s
    to_offered zero s h = sum_span_through m zero zero vals work.sums (λ i l. absurd (omega arith)) s h
    to_offered (suc n) s h = sum_span_through m (suc n) (suc n) vals work.sums (λ i l. elim (cases_eq i n) [
      | inr ne ↦ wider n (suc n) work.sums (vals i) (omega arith) (to_offered n (vals i) (sum_in_span m n vals i (omega arith)))
      | inl at ↦ subst (λ x. InSumSpan m (suc n) work.sums (vals x)) (sym at) (elim (cases_lt n kept.below) [
        | inl low ↦ value_is_offered n low (to_offered n)
        | inr high ↦ subst (InSumSpan m (suc n) work.sums) (sum_listed n high) (sum_in_span m (suc n) work.sums n (omega arith))
      ])
    ]) s h
