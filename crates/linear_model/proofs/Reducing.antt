-- A forward row swept by the rows behind it, and the list of these rows in the order of their leads.
use Rattle.std.proofs.Common.{◌≡◌, ◌≢◌, ℕ, zero, suc, ◌+◌, ◌-◌, ◌*◌, ◌%◌, ◌<◌, ◌≤◌, ◌⊎◌, inl, inr, sym, ◌∙◌, ap, subst, arith}
use Rattle.std.proofs.lemmas.Bool.{cases_eq, cases_lt, cases_order}
use Rattle.zeta_model.specs.Modular.{Same}
use Rattle.zeta_model.proofs.ModularLemmas.{same-add, same-add_right, same-mul_left, same-mul_right, same-opposite}
use Rattle.linear_model.specs.Rows.{combination, SameRow, InSpan, SpanWithin, rows_and}
use Rattle.linear_model.specs.Reduced.{IsReduced}
use Rattle.linear_model.specs.Forward.{IsForward, IsSwept}
use Rattle.linear_model.proofs.Totals.{total_vanishes, total_one_term}
use Rattle.linear_model.proofs.Spans.{row_in_span, span_through, combination_scaled}
use Rattle.linear_model.proofs.Sweeps.{normal_form_exists}
use Rattle.linear_model.proofs.ForwardLists.{reduced_is_forward, same_by_leads}
use Rattle.linear_model.proofs.SpanSteps.{rows_and-last, rows_and-before, in_span_and}

module _ (m n : ℕ) (lead : ℕ → ℕ) (rows : ℕ → ℕ → ℕ) (pos : 0 < m) (forward : IsForward m n lead rows) where
  -- row k times its factor vanishes at a column before its lead, and where the factor does
  vanishes_before : (c : ℕ → ℕ) (k col : ℕ) → k < n → col < lead k → Same m (c k * rows k col) 0
  vanishes_before c k col h l = same-mul_left m _ 0 (c k) (forward.before k col h l) ∙ ap (λ x. x % m) (let e : c k * 0 ≡ 0 = omega arith in e)

  vanishes_with : (c : ℕ → ℕ) (k col : ℕ) → Same m (c k) 0 → Same m (c k * rows k col) 0
  vanishes_with c k col h = same-mul_right m (c k) 0 (rows k col) h ∙ ap (λ x. x % m) (let e : 0 * rows k col ≡ 0 = omega arith in e)

  -- where a combination vanishes before column b, so do the coefficients of the rows that lead there
  coefficients_vanish : (c : ℕ → ℕ) (b : ℕ) → ((j : ℕ) → j < b → Same m (combination n rows c j) 0) → (t k : ℕ) → k < t → k < n → lead k < b
      → Same m (c k) 0
  coefficients_vanish c b none zero k below h l = absurd (omega arith)
  coefficients_vanish c b none (suc t) k below h l =
      ap (λ x. x % m) (let e : c k ≡ c k * 1 = omega arith in e)
      ∙ same-mul_left m 1 _ (c k) (sym (forward.one k h))
      ∙ sym (total_one_term m n (λ i. c i * rows i (lead k)) k h (λ i li ne. other (coefficients_vanish c b none t) i li ne (cases_order i k)))
      ∙ none (lead k) l
    where
      early : ((i : ℕ) → i < t → i < n → lead i < b → Same m (c i) 0) → (i : ℕ) → i < n → i < k → ((lead i < b) ⊎ (b ≤ lead i))
          → Same m (c i * rows i (lead k)) 0
      early ih i li less (inl lower) = vanishes_with c i (lead k) (ih i (omega arith) li lower)
      early ih i li less (inr higher) = vanishes_before c i (lead k) li (omega arith)

      other : ((i : ℕ) → i < t → i < n → lead i < b → Same m (c i) 0) → (i : ℕ) → i < n → i ≢ k → ((i ≡ k) ⊎ ((i < k) ⊎ (k < i)))
          → Same m (c i * rows i (lead k)) 0
      other ih i li ne (inl e) = absurd (ne e)
      other ih i li ne (inr (inl less)) = early ih i li less (cases_lt (lead i) b)
      other ih i li ne (inr (inr more)) = same-mul_left m _ 0 (c i) (forward.clear i k li more) ∙ ap (λ x. x % m) (let e : c i * 0 ≡ 0 = omega arith in e)

  -- a row of the span that vanishes before column b, and there if b is a lead, vanishes at b
  vanishes_at : (p : ℕ → ℕ) (b : ℕ) → InSpan m n rows p → ((j : ℕ) → j < b → Same m (p j) 0) → ((k : ℕ) → k < n → lead k ≡ b → Same m (p b) 0)
      → Same m (p b) 0
  vanishes_at p b (c, is) none at_leads = elim (cases_eq (p b % m) (0 % m)) [
    | inl e ↦ e
    | inr ne ↦ is b ∙ total_vanishes m n (λ k. c k * rows k b) (λ k h. term k h (cases_order (lead k) b) (λ e. ne (at_leads k h e)))
  ]
    where
      term : (k : ℕ) → k < n → ((lead k ≡ b) ⊎ ((lead k < b) ⊎ (b < lead k))) → lead k ≢ b → Same m (c k * rows k b) 0
      term k h (inl e) ne = absurd (ne e)
      term k h (inr (inl less)) ne = vanishes_with c k b (coefficients_vanish c b (λ j l. sym (is j) ∙ none j l) (suc k) k (omega arith) h less)
      term k h (inr (inr more)) ne = vanishes_before c k b h more

  -- a row of the span that is zero at all leads but that of row i is zero before it
  pub vanishes_before_lead : (p : ℕ → ℕ) (i : ℕ) → InSpan m n rows p → ((k : ℕ) → k < n → k ≢ i → Same m (p (lead k)) 0) → (b col : ℕ) → col < b
      → b ≤ lead i → Same m (p col) 0
  vanishes_before_lead p i lies clear zero col l h = absurd (omega arith)
  vanishes_before_lead p i lies clear (suc b) col l h = go (vanishes_before_lead p i lies clear b) (cases_eq col b)
    where
      go : ((j : ℕ) → j < b → b ≤ lead i → Same m (p j) 0) → ((col ≡ b) ⊎ (col ≢ b)) → Same m (p col) 0
      go ih (inl e) = vanishes_at p col lies (λ j t. ih j (omega arith) (omega arith))
          (λ k hk is. let other : k ≢ i = λ same. absurd (let s : lead k ≡ lead i = ap lead same in omega arith) in
          ap (λ x. p x % m) (sym is) ∙ clear k hk other)
      go ih (inr ne) = ih col (omega arith) (omega arith)

  -- the combination of row i and the rows behind it, as a sweep of row i by these leaves it
  module _ (i : ℕ) (inside : i < n) (c q : ℕ → ℕ) (none : (k : ℕ) → k < i + 1 → c k ≡ 0) (swept : IsSwept m (i + 1) n lead rows c (rows i) q) where
    -- the rows behind row k vanish at its lead, and those that were not added too
    rest_vanishes : (k : ℕ) → k < n → k ≤ i → Same m (combination n rows c (lead k)) 0
    rest_vanishes k h le = total_vanishes m n (λ l. c l * rows l (lead k)) (λ l hl. elim (cases_lt l (i + 1)) [
      | inl early ↦ vanishes_with c l (lead k) (ap (λ x. x % m) (none l early))
      | inr late ↦ same-mul_left m _ 0 (c l) (forward.clear l k hl (omega arith)) ∙ ap (λ x. x % m) (let e : c l * 0 ≡ 0 = omega arith in e)
    ])

    pub swept_one : Same m (q (lead i)) 1
    swept_one = swept.is (lead i) ∙ same-add m _ 1 _ 0 (forward.one i inside) (rest_vanishes i inside (omega arith))

    pub swept_clear : (k : ℕ) → k < n → k ≢ i → Same m (q (lead k)) 0
    swept_clear k h ne = elim (cases_lt k i) [
      | inl early ↦ swept.is (lead k) ∙ same-add m _ 0 _ 0 (forward.clear i k inside early) (rest_vanishes k h (omega arith))
      | inr late ↦ swept.zero_at_leads k (omega arith) h
    ]

    pub swept_lies : InSpan m n rows q
    swept_lies = span_through m (n + 1) n (rows_and n rows (rows i)) rows (λ l h. row_of l h (cases_eq l n)) q
        (in_span_and m n rows 1 c (rows i) q (λ col. swept.is col
        ∙ ap (λ x. x % m) (let e : rows i col + combination n rows c col ≡ 1 * rows i col + combination n rows c col = omega arith in e)))
      where
        row_of : (l : ℕ) → l < n + 1 → ((l ≡ n) ⊎ (l ≢ n)) → InSpan m n rows (rows_and n rows (rows i) l)
        row_of l h (inl e) = subst (InSpan m n rows) (sym (ap (rows_and n rows (rows i)) e ∙ rows_and-last m n rows (rows i)))
            (row_in_span m n rows i inside)
        row_of l h (inr ne) = subst (InSpan m n rows) (sym (rows_and-before m n rows (rows i) l ne)) (row_in_span m n rows l (omega arith))

    pub swept_before : (col : ℕ) → col < lead i → Same m (q col) 0
    swept_before col l = vanishes_before_lead q i swept_lies swept_clear (lead i) col l (omega arith)

  -- reduced rows of the span with all its leads span it
  pub spanned : (k : ℕ) (other_lead : ℕ → ℕ) (others : ℕ → ℕ → ℕ) → IsReduced m k other_lead others → SpanWithin m k others n rows
      → ((i : ℕ) → i < n → (j : ℕ) × (j < k) × (other_lead j ≡ lead i)) → SpanWithin m n rows k others
  spanned k other_lead others reduced within leads i h =
      let (q, form) = normal_form_exists m other_lead others k (rows i) pos (reduced_is_forward m k other_lead others reduced) in
      let d : ℕ → ℕ = form.coefficients in
      let back : SameRow m q (λ col. 1 * rows i col + combination k others (λ j. d j * (m - 1)) col) = λ col.
      sym (same-opposite m (q col) (combination k others d col) pos)
      ∙ same-add_right m _ _ _ (sym (form.differs col))
      ∙ ap (λ x. (rows i col + x) % m) (sym (combination_scaled k (m - 1) d others col))
      ∙ ap (λ x. x % m) (let e : rows i col + combination k others (λ j. d j * (m - 1)) col
      ≡ 1 * rows i col + combination k others (λ j. d j * (m - 1)) col = omega arith in e) in
      let lies : InSpan m n rows q = span_through m (k + 1) n (rows_and k others (rows i)) rows (λ l t. row_of l t (cases_eq l k)) q
      (in_span_and m k others 1 (λ j. d j * (m - 1)) (rows i) q back) in
      let none : SameRow m q (λ _. 0) =
      same_by_leads m n lead rows pos forward q (λ _. 0) lies
      (λ _. 0, λ col. sym (total_vanishes m n (λ l. 0 * rows l col) (λ l t. ap (λ x. x % m) (let e : 0 * rows l col ≡ 0 = omega arith in e))))
      (λ l t. ap (λ x. q x % m) (sym (leads l t).2) ∙ form.zero_at_leads (leads l t).0 (leads l t).1) in (
        d,
        λ col. form.differs col ∙ same-add_right m (q col) 0 _ (none col)
            ∙ ap (λ x. x % m) (let e : 0 + combination k others d col ≡ combination k others d col = omega arith in e),
      )
    where
      row_of : (l : ℕ) → l < k + 1 → ((l ≡ k) ⊎ (l ≢ k)) → InSpan m n rows (rows_and k others (rows i) l)
      row_of l t (inl e) = subst (InSpan m n rows) (sym (ap (rows_and k others (rows i)) e ∙ rows_and-last m k others (rows i))) (row_in_span m n rows i h)
      row_of l t (inr ne) = subst (InSpan m n rows) (sym (rows_and-before m k others (rows i) l ne)) (within l (omega arith))
