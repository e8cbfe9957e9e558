-- Work whose combinations can be written: what is written of residues at accepted numbers stands at accepted numbers that are no higher, and
-- where nothing is written there are no residues.
use Rattle.std.specs.Prelude.{◌≡◌, ◌≢◌, ℕ, zero, suc, ◌*◌, ◌%◌, ◌<◌, ◌≤◌, if◌then◌else◌, cond, eqb}
use Rattle.std.proofs.Common.{refl, sym, ◌∙◌, ap, subst, inl, inr, arith}
use Rattle.std.proofs.lemmas.Bool.{cases_eq, cases_lt, cases_order, lt-ltb, le-ltb, eq-eqb, ne_eqb}
use Rattle.zeta_model.specs.Modular.{Same}
use Rattle.zeta_model.specs.Inverses.{HasInverse}
use Rattle.zeta_model.specs.Sums.{Sum}
use Rattle.zeta_model.proofs.ModularLemmas.{same-mul_left, same-mul_right}
use Rattle.linear_model.proofs.Totals.{total_vanishes, total_one_term}
use Rattle.column_order.specs.Columns.{ColumnList}
use Rattle.table_model.specs.Conversion.{IsTable, Converts}
use Rattle.table_model.specs.ListedSpan.{count_of}
use Rattle.table_model.specs.ReducedRows.{IsAccepted, IsCombination}
use Rattle.table_model.proofs.CompleteRows.{listed_value-table}
use Rattle.file_model.specs.Pages.{Work, IsWork, listed_work}
use Rattle.file_model.specs.Resuming.{Kept, written_of, AreForward}
use Rattle.file_model.proofs.TrueRows.{work}
use Rattle.file_model.proofs.SuitingRows.{found_number, going_on_accepted}

-- residues at accepted numbers below n alone
pub record AreAccepted (m : ℕ) (columns : ColumnList) (sums : ℕ → Sum) (n : ℕ) (c : ℕ → ℕ) : Type 0 where
  pub accepted : (q : ℕ) → ¬ (IsAccepted m columns sums q) → Same m (c q) 0
  pub within : (q : ℕ) → n ≤ q → Same m (c q) 0

pub record IsWritable (m : ℕ) (columns : ColumnList) (work : Work) : Type 0 where
  pub beside : (n : ℕ) (c : ℕ → ℕ) → AreAccepted m columns work.sums n c → AreAccepted m columns work.sums n (work.beside c)
  pub some : (n : ℕ) (c : ℕ → ℕ) → n ≤ count_of columns → AreAccepted m columns work.sums n c → ((q : ℕ) → Same m (work.beside c q) 0)
      → (q : ℕ) → Same m (c q) 0

pub combination_accepted : (m : ℕ) (columns : ColumnList) (sums : ℕ → Sum) (n : ℕ) (p c : ℕ → ℕ) → IsCombination m columns sums n p c
    → AreAccepted m columns sums n c
combination_accepted m columns sums n p c h = record {
  accepted = λ q isnt. elim (cases_lt q n) [
    | inl l ↦ h.accepted q l isnt
    | inr past ↦ h.within q past
  ];
  within = h.within;
}

pub is_listed_work : (m : ℕ) (columns : ColumnList) → IsTable m columns → IsWork m columns (listed_work m columns)
is_listed_work m columns table = record { sums = listed_value-table m columns table; beside = λ c d e. e; linear = λ a b c d j. refl }

pub listed_writable : (m : ℕ) (columns : ColumnList) → IsWritable m columns (listed_work m columns)
listed_writable m columns = record { beside = λ n c h. h; some = λ n c few h z. z }

-- a listed value has itself beside it
pub written_listed : (kept : Kept) (n q : ℕ) → kept.below ≤ n → written_of kept n q ≡ cond (eqb q n) 1 0
written_listed kept n q l = ap (λ b. if b then kept.combinations n q else cond (eqb q n) 1 0) (le-ltb n kept.below l)

-- beside each kept row stand its own number, with a residue that has an inverse, and lower numbers that have rows; beside no row stands nothing
pub record AreBeside (m : ℕ) (columns : ColumnList) (kept : Kept) (rows : AreForward m columns kept) : Type 0 where
  pub none : (n : ℕ) → ((i : ℕ) → i < rows.count → ¬ (rows.number i ≡ n)) → (q : ℕ) → kept.combinations n q ≡ 0
  pub past : (n q : ℕ) → n < q → kept.combinations n q ≡ 0
  pub own : (i : ℕ) → i < rows.count → HasInverse m (kept.combinations (rows.number i) (rows.number i))
  pub others : (i q : ℕ) → i < rows.count → kept.combinations (rows.number i) q ≢ 0 → q ≢ rows.number i
      → (j : ℕ) × (j < rows.count) × (rows.number j ≡ q)

module _ (m : ℕ) (columns : ColumnList) (table : IsTable m columns) (converts : Converts m columns) (kept : Kept) (rows : AreForward m columns kept)
    (besides : AreBeside m columns kept rows) where
  abbrev W : Work
  W = work m columns table converts kept

  written_kept : (n q : ℕ) → n < kept.below → written_of kept n q ≡ kept.combinations n q
  written_kept n q l = ap (λ b. if b then kept.combinations n q else cond (eqb q n) 1 0) (lt-ltb n kept.below l)

  listed_other : (n q : ℕ) → kept.below ≤ n → q ≢ n → written_of kept n q ≡ 0
  listed_other n q l ne = written_listed kept n q l ∙ ap (λ b. cond b 1 0) (ne_eqb q n ne)

  nothing_past : (n q : ℕ) → n < q → written_of kept n q ≡ 0
  nothing_past n q l = elim (cases_lt n kept.below) [
    | inl low ↦ written_kept n q low ∙ besides.past n q l
    | inr high ↦ listed_other n q high (λ e. absurd (omega (arith, l, e)))
  ]

  times_nothing : (x y : ℕ) → y ≡ 0 → Same m (x * y) 0
  times_nothing x y e = ap (λ z. x * z % m) e ∙ ap (λ z. z % m) (omega arith)

  nothing_times : (x y : ℕ) → Same m x 0 → Same m (x * y) 0
  nothing_times x y e = same-mul_right m x 0 y e ∙ ap (λ z. z % m) (omega arith)

  -- what a kept row has at a number that is not accepted
  kept_nothing : (k q : ℕ) → k < kept.below → ¬ (IsAccepted m columns W.sums q) → kept.combinations k q ≡ 0
  kept_nothing k q l isnt = elim (found_number rows.count rows.number k) [
    | inr none ↦ besides.none k none q
    | inl (i, li, e) ↦ elim (cases_eq (kept.combinations k q) 0) [
      | inl nothing ↦ nothing
      | inr some ↦ absurd (isnt (elim (cases_eq q k) [
        | inl at ↦ subst (IsAccepted m columns W.sums) (sym at) ((going_on_accepted m columns table converts kept rows k l).1 (i, li, e))
        | inr ne ↦
            let (j, lj, same) = besides.others i q li (subst (λ x. kept.combinations x q ≢ 0) (sym e) some) (λ at. ne (at ∙ e)) in
            (going_on_accepted m columns table converts kept rows q (subst (λ x. x < kept.below) same (rows.below j lj))).1 (j, lj, same)
      ]))
    ]
  ]

  term_nothing : (n : ℕ) (c : ℕ → ℕ) → AreAccepted m columns W.sums n c → (q : ℕ) → ¬ (IsAccepted m columns W.sums q) → (k : ℕ)
      → Same m (c k * written_of kept k q) 0
  term_nothing n c h q isnt k = elim (cases_lt k kept.below) [
    | inl low ↦ times_nothing (c k) (written_of kept k q) (written_kept k q low ∙ kept_nothing k q low isnt)
    | inr high ↦ elim (cases_eq q k) [
      | inl at ↦ nothing_times (c k) (written_of kept k q) (subst (λ x. Same m (c x) 0) at (h.accepted q isnt))
      | inr ne ↦ times_nothing (c k) (written_of kept k q) (listed_other k q high ne)
    ]
  ]

  -- the last residue is zero where nothing is written at its number
  last_nothing : (n : ℕ) (c : ℕ → ℕ) → n < count_of columns → AreAccepted m columns W.sums (suc n) c → Same m (W.beside c n) 0 → Same m (c n) 0
  last_nothing n c few h z = elim (cases_lt n kept.below) [
    | inr high ↦ ap (λ x. x % m) (let e : c n ≡ c n * 1 = omega arith in e)
        ∙ ap (λ x. c n * x % m) (sym (written_listed kept n n high ∙ ap (λ b. cond b 1 0) (eq-eqb n n refl))) ∙ own_term
    | inl low ↦ elim (found_number rows.count rows.number n) [
      | inr none ↦ h.accepted n (λ is. absurd (unfound none ((going_on_accepted m columns table converts kept rows n low).0 is)))
      | inl (i, li, e) ↦
          let (inverse, unit) = subst (λ x. HasInverse m (kept.combinations x x)) e (besides.own i li) in
          let u : ℕ = kept.combinations n n in
          ap (λ x. x % m) (let e : c n ≡ c n * 1 = omega arith in e) ∙ same-mul_left m 1 (u * inverse) (c n) (sym unit)
          ∙ ap (λ x. x % m) (let e : c n * (u * inverse) ≡ c n * u * inverse = omega arith in e)
          ∙ nothing_times (c n * u) inverse (ap (λ x. c n * x % m) (sym (written_kept n n low)) ∙ own_term)
    ]
  ]
    where
      unfound : ((i : ℕ) → i < rows.count → ¬ (rows.number i ≡ n)) → ((i : ℕ) × (i < rows.count) × (rows.number i ≡ n)) → ⊥
      unfound none (i, li, e) = none i li e

      own_term : Same m (c n * written_of kept n n) 0
      own_term = sym (total_one_term m (count_of columns) (λ k. c k * written_of kept k n) n few (λ k l ne. elim (cases_order k n) [
        | inl at ↦ absurd (ne at)
        | inr o ↦ elim o [
          | inl below ↦ times_nothing (c k) (written_of kept k n) (nothing_past k n below)
          | inr above ↦ nothing_times (c k) (written_of kept k n) (h.within k (omega arith))
        ]
      ])) ∙ z

  all_nothing : (n : ℕ) (c : ℕ → ℕ) → n ≤ count_of columns → AreAccepted m columns W.sums n c → ((q : ℕ) → Same m (W.beside c q) 0)
      → (q : ℕ) → Same m (c q) 0
  all_nothing zero c few h z q = h.within q (omega arith)
  all_nothing (suc n) c few h z q = all_nothing n c (omega (arith, few)) (record {
    accepted = h.accepted;
    within = λ k l. elim (cases_eq k n) [
      | inl at ↦ subst (λ x. Same m (c x) 0) (sym at) (last_nothing n c (omega (arith, few)) h (z n))
      | inr ne ↦ h.within k (omega (arith, l, ne))
    ];
  }) z q

  -- the work that goes on from such rows
  pub kept_writable : IsWritable m columns W
  kept_writable = record {
    beside = λ n c h. record {
      accepted = λ q isnt. total_vanishes m (count_of columns) (λ k. c k * written_of kept k q) (λ k _. term_nothing n c h q isnt k);
      within = λ q l. total_vanishes m (count_of columns) (λ k. c k * written_of kept k q) (λ k _. elim (cases_lt k n) [
        | inl low ↦ times_nothing (c k) (written_of kept k q) (nothing_past k q (omega (arith, l, low)))
        | inr past ↦ nothing_times (c k) (written_of kept k q) (h.within k past)
      ]);
    };
    some = all_nothing;
  }
