-- Kept rows that are a forward list are the forward rows of the work that goes on from them.
use Rattle.std.specs.Prelude.{◌≡◌, ℕ, zero, suc, ◌+◌, ◌*◌, ◌%◌, ◌<◌, ◌≤◌, ◌⊎◌, ◌↔◌}
use Rattle.std.proofs.Common.{refl, sym, ◌∙◌, ap, subst, inl, inr, arith}
use Rattle.std.proofs.lemmas.Bool.{cases_eq, cases_lt}
use Rattle.zeta_model.specs.Modular.{Same}
use Rattle.zeta_model.specs.Sums.{Sum}
use Rattle.zeta_model.proofs.ModularLemmas.{same-mod, same-mul_right}
use Rattle.std.proofs.Math.Nat.{mod-eq_of_lt}
use Rattle.linear_model.specs.Rows.{combination, SameRow, InSpan, SameSpan}
use Rattle.linear_model.specs.Forward.{IsForward}
use Rattle.linear_model.proofs.Spans.{row_in_span}
use Rattle.column_order.specs.Columns.{ColumnList}
use Rattle.table_model.specs.Conversion.{IsTable, Converts, IsCols}
use Rattle.table_model.specs.ListedSpan.{InSumSpan}
use Rattle.table_model.specs.ReducedRows.{IsRest, IsAccepted, IsBrokenAt, IsForwardRow, IsUnbroken}
use Rattle.table_model.proofs.Bridges.{rest_from_forward_list}
use Rattle.table_model.proofs.Inverses.{lead_unique}
use Rattle.table_model.proofs.ReducedRowsLaws.{rest_zero, rest_unique}
use Rattle.table_model.proofs.ForwardRowLaws.{unbroken_has_rows}
use Rattle.file_model.specs.Resuming.{Kept, AreForward}
use Rattle.file_model.proofs.TrueRows.{work, sum_kept, sums_table, no_words}
use Rattle.file_model.proofs.SameWork.{no_combination}

one_not_zero : (m : ℕ) → 1 < m → ¬ (Same m 1 0)
one_not_zero m h e = let a : 1 % m ≡ 1 = mod-eq_of_lt h in let b : 0 % m ≡ 0 = mod-eq_of_lt (omega arith) in absurd (omega arith)

-- whether one of the numbers is k
pub found_number : (count : ℕ) (number : ℕ → ℕ) (k : ℕ) → ((i : ℕ) × (i < count) × (number i ≡ k)) ⊎ ((i : ℕ) → i < count → ¬ (number i ≡ k))
found_number zero number k = inr (λ i l. absurd (omega arith))
found_number (suc count) number k = elim (cases_eq (number count) k) [
  | inl e ↦ inl (count, omega arith, e)
  | inr ne ↦ elim (found_number count number k) [
    | inl (i, l, e) ↦ inl (i, omega arith, e)
    | inr none ↦ inr (λ i l. elim (cases_eq i count) [
      | inl at ↦ λ e. ne (ap number (sym at) ∙ e)
      | inr less ↦ none i (omega arith)
    ])
  ]
]

module _ (m : ℕ) (columns : ColumnList) (table : IsTable m columns) (converts : Converts m columns) (kept : Kept) (rows : AreForward m columns kept) where
  abbrev S : ℕ → Sum
  S = (work m columns table converts kept).sums

  pub row_is_cols : (k : ℕ) → k < kept.below → IsCols m columns (S k) (kept.rows k)
  row_is_cols k l = subst (λ s. IsCols m columns s (kept.rows k)) (sym (sum_kept m columns table converts kept k l))
      (record { over = rows.over k l; words = λ t. refl })

  -- the rows before place i are a forward list
  front_forward : (i : ℕ) → i ≤ rows.count → IsForward m i rows.lead (λ j. kept.rows (rows.number j))
  front_forward i l = let f = rows.forward in record {
    one = λ j lj. f.one j (omega arith);
    before = λ j c lj. f.before j c (omega arith);
    clear =
        λ j k lj lk. f.clear j k (omega arith) lk;
  }

  earlier_place : (i j : ℕ) → i < rows.count → j < rows.count → rows.number j < rows.number i → j < i
  earlier_place i j li lj l = elim (cases_lt j i) [
    | inl less ↦ less
    | inr more ↦ elim (cases_eq i j) [
      | inl e ↦ let same : rows.number i ≡ rows.number j = ap rows.number e in absurd (omega (arith, l, same))
      | inr ne ↦ let up : rows.number i < rows.number j = rows.rising i j (omega arith) lj in absurd (omega (arith, l, up))
    ]
  ]

  abbrev R : ℕ → ℕ → ℕ
  R j = kept.rows (rows.number j)

  -- the rows of the first places have the span of all rows of the numbers below n, where these are the places whose number is below n
  first_span : (i n : ℕ) → i ≤ rows.count → n ≤ kept.below → ((j : ℕ) → j < i → rows.number j < n) → ((j : ℕ) → j < rows.count → rows.number j < n → j < i)
      → SameSpan m i R n kept.rows
  first_span i n li l below first = (
    λ j lj. row_in_span m n kept.rows (rows.number j) (below j lj),
    λ k lk. elim (found_number rows.count rows.number k) [
      | inl (j, lj, e) ↦ subst (λ x. InSpan m i R (kept.rows x)) e (row_in_span m i R j (first j lj (omega (arith, lk, e))))
      | inr none ↦ (λ _. 0, λ col. rows.others k (omega (arith, lk, l)) none col ∙ ap (λ x. x % m) (sym (no_combination i R col)))
    ],
  )

  -- those before a place have the span of all rows of the numbers before its own
  front_span : (i : ℕ) → i < rows.count → SameSpan m i R (rows.number i) kept.rows
  front_span i l = first_span i (rows.number i) (omega arith) (omega (arith, rows.below i l)) (λ j lj. rows.rising j i lj l)
      (λ j lj less. earlier_place i j l lj less)

  -- and all of them that of all rows of the numbers below a bound of theirs
  pub all_span : (n : ℕ) → n ≤ kept.below → ((i : ℕ) → i < rows.count → rows.number i < n) → SameSpan m rows.count R n kept.rows
  all_span n l within = first_span rows.count n (omega arith) l within (λ j lj _. lj)

  own_rest : (i : ℕ) → i < rows.count → IsUnbroken m columns S (rows.number i) → IsRest m columns S (rows.number i) (kept.rows (rows.number i))
  own_rest i l un =
      let n : ℕ = rows.number i in
      let f = rows.forward in
      let (k, other_lead, others, h) = unbroken_has_rows m columns table S (sums_table m columns table converts kept) converts n un in
      rest_from_forward_list m columns table converts S n i k rows.lead other_lead (λ j. kept.rows (rows.number j)) others kept.rows
      (λ j lj. row_is_cols j (omega (arith, lj, rows.below i l))) h (front_forward i (omega arith)) (front_span i l) (kept.rows n) (record {
        zero_at_leads = λ j lj. f.clear i j l lj;
        coefficients = λ _. 0;
        differs = λ col. ap (λ x. x % m) (let z : kept.rows n col ≡ kept.rows n col + combination i (λ j. kept.rows (rows.number j)) (λ _. 0) col = omega
            (arith, no_combination i (λ j. kept.rows (rows.number j)) col) in z);
      })

  own_forward : (i : ℕ) → i < rows.count → IsUnbroken m columns S (rows.number i) → IsForwardRow m columns S (rows.number i) (kept.rows (rows.number i))
  own_forward i l un =
      let f = rows.forward in
      let one : Same m (kept.rows (rows.number i) (rows.lead i)) 1 = f.one i l in record {
        rest = kept.rows (rows.number i);
        is_rest = own_rest i l un;
        col = rows.lead i;
        leads = record { before = λ j lj. f.before i j l lj; here = λ z. one_not_zero m (omega (arith, big)) (sym one ∙ z) };
        inverse = 1;
        inverts = ap (λ x. x % m) (let e : kept.rows (rows.number i) (rows.lead i) * 1 ≡ kept.rows (rows.number i) (rows.lead i) = omega arith in e) ∙ one;
        is = λ j. ap (λ x. x % m) (omega arith);
      }
    where
      big : 2 < m
      big = table.modulus

  -- a number that has no row is not accepted
  other_rest : (n : ℕ) → n < kept.below → ((i : ℕ) → i < rows.count → ¬ (rows.number i ≡ n)) → (q : ℕ → ℕ) → IsRest m columns S n q → SameRow m q (λ _. 0)
  other_rest n l none q r = (rest_zero m columns table S n q r).1
      (subst (InSumSpan m n S) (sym (sum_kept m columns table converts kept n l))
      (no_words m columns table converts kept n S (kept.rows n) (rows.others n l none)))

  -- where there is a forward row the work is not broken
  forward_not_broken : (n : ℕ) (p : ℕ → ℕ) → IsForwardRow m columns S n p → (residue : ℕ) → ¬ (IsBrokenAt m columns S n residue)
  forward_not_broken n p f residue b =
      let same : SameRow m b.rest f.rest = rest_unique m columns table S
      (sums_table m columns table converts kept) converts n b.rest f.rest b.is_rest f.is_rest in
      let one : b.col ≡ f.col = lead_unique m b.rest f.rest b.col f.col same b.leads f.leads in
      let told : Same m (f.rest f.col) residue = sym (same b.col ∙ ap (λ x. f.rest x % m) one) ∙ sym (same-mod m (b.rest b.col)) ∙ ap (λ x. x % m) b.told in
      b.none (f.inverse, same-mul_right m residue (f.rest f.col) f.inverse (sym told) ∙ f.inverts)

  kept_unbroken : (n : ℕ) → n ≤ kept.below → IsUnbroken m columns S n
  kept_unbroken zero l k lk residue b = absurd (omega arith)
  kept_unbroken (suc n) l k lk residue b = elim (cases_eq k n) [
    | inr ne ↦ kept_unbroken n (omega arith) k (omega arith) residue b
    | inl at ↦ elim (found_number rows.count rows.number k) [
      | inl (i, li, e) ↦
          let un : IsUnbroken m columns S (rows.number i) = subst (IsUnbroken m columns S) (sym (e ∙ at)) (kept_unbroken n (omega arith)) in
          forward_not_broken k (kept.rows (rows.number i))
          (subst (λ x. IsForwardRow m columns S x (kept.rows (rows.number i))) e (own_forward i li un)) residue b
      | inr none ↦ let leads = b.leads in leads.here (other_rest k (omega (arith, at, l)) none b.rest b.is_rest b.col)
    ]
  ]

  pub going_on_unbroken : IsUnbroken m columns S kept.below
  going_on_unbroken = kept_unbroken kept.below (omega arith)

  pub going_on_forward : (i : ℕ) → i < rows.count → IsForwardRow m columns S (rows.number i) (kept.rows (rows.number i))
  going_on_forward i l = own_forward i l (kept_unbroken (rows.number i) (omega (arith, rows.below i l)))

  pub going_on_accepted : (n : ℕ) → n < kept.below → IsAccepted m columns S n ↔ ((i : ℕ) × (i < rows.count) × (rows.number i ≡ n))
  going_on_accepted n l = (
    λ (q, r, some). elim (found_number rows.count rows.number n) [
      | inl found ↦ found
      | inr none ↦ absurd (some (other_rest n l none q r))
    ],
    λ (i, li, e). subst (IsAccepted m columns S) e (let f = going_on_forward i li in let leads = f.leads in (f.rest, f.is_rest, λ z. leads.here (z f.col))),
  )
