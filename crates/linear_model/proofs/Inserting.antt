-- One row more in a reduced list: the other rows are cleared at its lead, and it is put between them.
use Rattle.std.specs.Prelude.{◌≡◌, ◌≢◌, ℕ, zero, suc, ◌+◌, ◌-◌, ◌*◌, ◌%◌, ◌<◌, ◌≤◌, ◌⊎◌, cond, eqb, ltb}
use Rattle.std.proofs.Common.{refl, sym, ◌∙◌, ap, subst, inl, inr, arith, mod-eq_of_lt}
use Rattle.std.proofs.lemmas.Bool.{cases_eq, cases_lt, cases_order, lt-ltb, le-ltb, eq-eqb, ne_eqb}
use Rattle.zeta_model.specs.Modular.{Same}
use Rattle.zeta_model.proofs.ModularLemmas.{same-add, same-add_left, same-mul_left, same-mul_right, same-opposite}
use Rattle.linear_model.specs.Rows.{InSpan}
use Rattle.linear_model.specs.Reduced.{IsReduced}
use Rattle.linear_model.proofs.Spans.{row_in_span}
use Rattle.linear_model.proofs.RowSpans.{row_span_add, same_in_row_span}

-- f with x put before place k
unfoldable pub inserted : {A : Type 0} → ℕ → A → (ℕ → A) → ℕ → A
inserted k x f i = cond (ltb i k) (f i) (cond (eqb i k) x (f (i - 1)))

inserted_before : {A : Type 0} (k : ℕ) (x : A) (f : ℕ → A) (i : ℕ) → i < k → inserted k x f i ≡ f i
unfolding inserted
inserted_before k x f i h = ap (λ b. cond b (f i) (cond (eqb i k) x (f (i - 1)))) (lt-ltb i k h)

inserted_here : {A : Type 0} (k : ℕ) (x : A) (f : ℕ → A) → inserted k x f k ≡ x
unfolding inserted
inserted_here k x f = ap (λ b. cond b (f k) (cond (eqb k k) x (f (k - 1)))) (le-ltb k k (omega arith)) ∙ ap (λ b. cond b x (f (k - 1))) (eq-eqb k k refl)

inserted_behind : {A : Type 0} (k : ℕ) (x : A) (f : ℕ → A) (i : ℕ) → k ≤ i → inserted k x f (suc i) ≡ f i
unfolding inserted
inserted_behind k x f i h =
    let e : suc i - 1 ≡ i = omega arith in
    ap (λ b. cond b (f (suc i)) (cond (eqb (suc i) k) x (f (suc i - 1)))) (le-ltb (suc i) k (omega arith))
    ∙ ap (λ b. cond b x (f (suc i - 1))) (ne_eqb (suc i) k (omega arith)) ∙ ap f e

module _ (m n : ℕ) (lead : ℕ → ℕ) (rows : ℕ → ℕ → ℕ) (big : 1 < m) (reduced : IsReduced m n lead rows) (f : ℕ → ℕ) (col : ℕ)
    (one : Same m (f col) 1) (before : (j : ℕ) → j < col → Same m (f j) 0) (clear : (i : ℕ) → i < n → Same m (f (lead i)) 0) where
  pos : 0 < m
  pos = omega arith

  -- the new lead is none of the others
  other_lead : (i : ℕ) → i < n → lead i ≢ col
  other_lead i l e =
      let a : 1 % m ≡ 1 = mod-eq_of_lt big in let b : 0 % m ≡ 0 = mod-eq_of_lt pos in
      let c : Same m 1 0 = sym one ∙ subst (λ x. Same m (f x) 0) e (clear i l) in
      absurd (omega (arith, a, b, c))

  -- row i, made zero at the new lead
  pub cleared : ℕ → ℕ → ℕ
  cleared i j = rows i j + rows i col * (m - 1) * f j

  gone : (i j : ℕ) → Same m (f j) 0 → Same m (cleared i j) (rows i j)
  unfolding cleared
  gone i j z = same-add_left m (rows i col * (m - 1) * f j) 0 (rows i j) (same-mul_left m (f j) 0 (rows i col * (m - 1)) z ∙ ap (λ x. x % m) (omega arith))
      ∙ ap (λ x. x % m) (omega arith)

  cleared_one : (i : ℕ) → i < n → Same m (cleared i (lead i)) 1
  cleared_one i l = gone i (lead i) (clear i l) ∙ reduced.one i l

  cleared_clear : (i k : ℕ) → i < n → k < n → i ≢ k → Same m (cleared i (lead k)) 0
  cleared_clear i k li lk ne = gone i (lead k) (clear k lk) ∙ reduced.clear i k li lk ne

  cleared_col : (i : ℕ) → Same m (cleared i col) 0
  unfolding cleared
  cleared_col i =
      same-add_left m (rows i col * (m - 1) * f col) (rows i col * (m - 1) * 1) (rows i col) (same-mul_left m (f col) 1 (rows i col * (m - 1)) one)
      ∙ ap (λ x. x % m) (let e : rows i col + rows i col * (m - 1) * 1 ≡ 0 + rows i col + rows i col * (m - 1) = omega arith in e)
      ∙ same-opposite m 0 (rows i col) pos

  cleared_before : (i j : ℕ) → i < n → j < lead i → Same m (cleared i j) 0
  unfolding cleared
  cleared_before i j l h = elim (cases_lt j col) [
    | inl early ↦ gone i j (before j early) ∙ reduced.before i j l h
    | inr late ↦
        let z : Same m (rows i col) 0 = reduced.before i col l (omega arith) in
        same-add m (rows i j) 0 (rows i col * (m - 1) * f j) 0 (reduced.before i j l h)
        (ap (λ x. x % m) (let e : rows i col * (m - 1) * f j ≡ rows i col * ((m - 1) * f j) = omega arith in e)
        ∙ same-mul_right m (rows i col) 0 ((m - 1) * f j) z ∙ ap (λ x. x % m) (let e : 0 * ((m - 1) * f j) ≡ 0 = omega arith in e))
  ]

  -- the place of the new row: behind the rows that lead before its lead
  record Place : Type 0 where
    place : ℕ
    within : place ≤ n
    low : (i : ℕ) → i < place → lead i < col
    high : (i : ℕ) → place ≤ i → i < n → col < lead i

  place_below : (k : ℕ) → k ≤ n → (p : ℕ) × (p ≤ k) × ((i : ℕ) → i < p → lead i < col) × ((i : ℕ) → p ≤ i → i < k → col < lead i)
  place_below zero h = (0, omega arith, λ i l. absurd (omega arith), λ i l u. absurd (omega arith))
  place_below (suc k) h = elim (cases_lt (lead k) col) [
    | inl low ↦ (
      suc k,
      omega arith,
      λ i l. elim (cases_eq i k) [
        | inl e ↦ subst (λ x. lead x < col) (sym e) low
        | inr ne ↦ let up : lead i < lead k = reduced.rising i k (omega arith) (omega arith) in omega arith
      ],
      λ i l u. absurd (omega arith),
    )
    | inr high ↦
        let r : (p : ℕ) × (p ≤ k) × ((i : ℕ) → i < p → lead i < col) × ((i : ℕ) → p ≤ i → i < k → col < lead i) = place_below k (omega arith) in
        let ne : lead k ≢ col = other_lead k (omega arith) in (
          r.0,
          omega (arith, r.1),
          r.2,
          λ i l u. elim (cases_eq i k) [
            | inl e ↦ subst (λ x. col < lead x) (sym e) (omega arith)
            | inr other ↦ r.3 i l (omega arith)
          ],
        )
  ]

  place_of_new : Place
  place_of_new = let r : (p : ℕ) × (p ≤ n) × ((i : ℕ) → i < p → lead i < col) × ((i : ℕ) → p ≤ i → i < n → col < lead i) = place_below n (omega arith) in
      record { place = r.0; within = r.1; low = r.2; high = r.3 }

  abbrev k : ℕ
  k = place_of_new.place

  pub new_lead : ℕ → ℕ
  new_lead = inserted k col lead

  pub new_rows : ℕ → ℕ → ℕ
  new_rows = inserted k f cleared

  -- place i of the new list holds the row that was at place old
  record Old (i : ℕ) : Type 0 where
    old : ℕ
    below : old < n
    lead_is : new_lead i ≡ lead old
    row_is : new_rows i ≡ cleared old
    side : ((i < k) × (old ≡ i)) ⊎ ((k ≤ old) × (i ≡ suc old))

  old_early : (i : ℕ) → i < k → Old i
  unfolding new_lead new_rows
  old_early i h = let w : k ≤ n = place_of_new.within in
      record { old = i; below = omega arith; lead_is = inserted_before k col lead i h; row_is = inserted_before k f cleared i h; side = inl (h, refl) }

  old_late : (i : ℕ) → k ≤ i → i < n → Old (suc i)
  unfolding new_lead new_rows
  old_late i h l = record { old = i; below = l; lead_is = inserted_behind k col lead i h; row_is = inserted_behind k f cleared i h; side = inr (h, refl) }

  view : (i : ℕ) → i < suc n → Old i ⊎ (i ≡ k)
  view zero l = elim (cases_lt 0 k) [ inl h ↦ inl (old_early 0 h) | inr h ↦ inr (omega arith) ]
  view (suc i) l = elim (cases_order (suc i) k) [
    | inl e ↦ inr e
    | inr r ↦ elim r [
      | inl h ↦ inl (old_early (suc i) h)
      | inr h ↦ inl (old_late i (omega arith) (omega arith))
    ]
  ]

  lead_here : (i : ℕ) → i ≡ k → new_lead i ≡ col
  unfolding new_lead
  lead_here i e = ap (inserted k col lead) e ∙ inserted_here k col lead

  row_here : (i : ℕ) → i ≡ k → new_rows i ≡ f
  unfolding new_rows
  row_here i e = ap (inserted k f cleared) e ∙ inserted_here k f cleared

  at : (i : ℕ) (r : ℕ → ℕ) (c j : ℕ) → new_rows i ≡ r → j ≡ c → Same m (new_rows i j) (r c)
  at i r c j e h = λ z. e z (h z) % m

  pub new_reduced : IsReduced m (suc n) new_lead new_rows
  new_reduced = record {
    one = λ i l. elim (view i l) [
      | inl o ↦ at i (cleared o.old) (lead o.old) (new_lead i) o.row_is o.lead_is ∙ cleared_one o.old o.below
      | inr e ↦ at i f col (new_lead i) (row_here i e) (lead_here i e) ∙ one
    ];
    before = λ i j l h. elim (view i l) [
      | inl o ↦ at i (cleared o.old) j j o.row_is refl ∙ cleared_before o.old j o.below (subst (λ x. j < x) o.lead_is h)
      | inr e ↦ at i f j j (row_here i e) refl ∙ before j (subst (λ x. j < x) (lead_here i e) h)
    ];
    rising = λ i j h l. rises i j h l (view i (omega arith)) (view j l);
    clear = λ i j li lj ne. clears i j ne (view i li) (view j lj);
  }
    where
      rises : (i j : ℕ) → i < j → j < suc n → Old i ⊎ (i ≡ k) → Old j ⊎ (j ≡ k) → new_lead i < new_lead j
      rises i j h l (inl o) (inl p) =
          let up : o.old < p.old = elim o.side [
            | inl a ↦ elim p.side [
              | inl b ↦ omega (arith, a.1, b.1)
              | inr b ↦ omega
                  (arith, a.0, a.1, b.0)
            ]
            | inr a ↦ elim p.side [ inl b ↦ omega (arith, a.0, a.1, b.0, b.1) | inr b ↦ omega (arith, a.1, b.1) ]
          ] in
          omega (arith, reduced.rising o.old p.old up p.below, o.lead_is, p.lead_is)
      rises i j h l (inl o) (inr e) = elim o.side [
        | inl a ↦ omega (arith, place_of_new.low o.old (omega (arith, a.0, a.1)), o.lead_is, lead_here j e)
        | inr a ↦ absurd (omega (arith, a.0, a.1))
      ]
      rises i j h l (inr e) (inl p) = elim p.side [
        | inl b ↦ absurd (omega (arith, b.0, b.1))
        | inr b ↦ omega (arith, place_of_new.high p.old b.0 p.below, lead_here i e, p.lead_is)
      ]
      rises i j h l (inr e) (inr g) = absurd (omega arith)

      clears : (i j : ℕ) → i ≢ j → Old i ⊎ (i ≡ k) → Old j ⊎ (j ≡ k) → Same m (new_rows i (new_lead j)) 0
      clears i j ne (inl o) (inl p) =
          let apart : o.old ≢ p.old = λ e. ne
          (elim o.side [
            | inl a ↦ elim p.side [
              | inl b ↦ omega (arith, a.1, b.1, e)
              | inr b ↦ absurd
                  (omega (arith, a.0, a.1, b.0, e))
            ]
            | inr a ↦ elim p.side [
              | inl b ↦ absurd (omega (arith, a.0, b.0, b.1, e))
              | inr b ↦ omega
                  (arith, a.1, b.1, e)
            ]
          ]) in
          at i (cleared o.old) (lead p.old) (new_lead j) o.row_is p.lead_is ∙ cleared_clear o.old p.old o.below p.below apart
      clears i j ne (inl o) (inr e) = at i (cleared o.old) col (new_lead j) o.row_is (lead_here j e) ∙ cleared_col o.old
      clears i j ne (inr e) (inl p) = at i f (lead p.old) (new_lead j) (row_here i e) p.lead_is ∙ clear p.old p.below
      clears i j ne (inr e) (inr g) = absurd (ne (e ∙ sym g))

  -- what lies in the span of the new list
  pub new_row_in_span : InSpan m (suc n) new_rows f
  new_row_in_span =
      let w : k ≤ n = place_of_new.within in
      let r : InSpan m (suc n) new_rows (new_rows k) = row_in_span m (suc n) new_rows k (omega arith) in
      subst (InSpan m (suc n) new_rows) (row_here k refl) r

  new_early : (i : ℕ) → i < k → new_rows i ≡ cleared i
  unfolding new_rows
  new_early i h = inserted_before k f cleared i h

  new_late : (i : ℕ) → k ≤ i → new_rows (suc i) ≡ cleared i
  unfolding new_rows
  new_late i h = inserted_behind k f cleared i h

  cleared_in_span : (i : ℕ) → i < n → InSpan m (suc n) new_rows (cleared i)
  cleared_in_span i l = elim (cases_lt i k) [
    | inl h ↦ subst (InSpan m (suc n) new_rows) (new_early i h) (row_in_span m (suc n) new_rows i (omega arith))
    | inr h ↦ subst (InSpan m (suc n) new_rows) (new_late i h) (row_in_span m (suc n) new_rows (suc i) (omega arith))
  ]

  pub old_row_in_span : (i : ℕ) → i < n → InSpan m (suc n) new_rows (rows i)
  unfolding cleared
  old_row_in_span i l =
      same_in_row_span m (suc n) new_rows (rows i) (λ j. 1 * cleared i j + rows i col * f j)
      (λ j. sym (ap (λ x. x % m) (let e : 1 * (rows i j + rows i col * (m - 1) * f j) + rows i col * f j
      ≡ rows i j + rows i col * f j + rows i col * f j * (m - 1) = grind arith in e) ∙ same-opposite m (rows i j) (rows i col * f j) pos))
      (row_span_add m (suc n) new_rows (cleared i) f 1 (rows i col) (cleared_in_span i l) new_row_in_span)

  -- each new row is the new one or a cleared one
  pub new_rows_cases : (P : (ℕ → ℕ) → Type 0) → P f → ((i : ℕ) → i < n → P (λ j. rows i j + rows i col * (m - 1) * f j)) → (i : ℕ) → i < suc n
      → P (new_rows i)
  unfolding cleared
  new_rows_cases P hf hc i l = elim (view i l) [
    | inl o ↦ subst P (sym o.row_is) (hc o.old o.below)
    | inr e ↦ subst P (sym (row_here i e)) hf
  ]
