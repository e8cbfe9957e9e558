-- One reduced list: a combination has its coefficients at the leads, and begins at a lead.
use Rattle.std.specs.Prelude.{◌≡◌, ◌≢◌, ℕ, zero, suc, ◌*◌, ◌%◌, ◌<◌, ◌≤◌, ◌⊎◌}
use Rattle.std.proofs.Common.{sym, ◌∙◌, ap, subst, inl, inr, arith}
use Rattle.std.proofs.lemmas.Bool.{cases_eq, cases_lt}
use Rattle.zeta_model.specs.Modular.{Same}
use Rattle.zeta_model.proofs.ModularLemmas.{same-mul_left, same-mul_right}
use Rattle.linear_model.specs.Rows.{combination, InSpan}
use Rattle.linear_model.specs.Reduced.{IsLead, IsReduced}
use Rattle.linear_model.proofs.Totals.{total_vanishes, total_one_term}

-- the place below n of a lead at column col, or that there is none
find_lead : (n : ℕ) (lead : ℕ → ℕ) (col : ℕ) → ((i : ℕ) × (i < n) × (lead i ≡ col)) ⊎ ((i : ℕ) → i < n → lead i ≢ col)
find_lead zero lead col = inr (λ i l. absurd (omega arith))
find_lead (suc n) lead col =
    elim (find_lead n lead col) [
      | inl (i, l, e) ↦ inl (i, omega arith, e)
      | inr none ↦ elim (cases_eq (lead n) col) [
        | inl e ↦ inl (n, omega arith, e)
        | inr ne ↦ inr (λ i l. elim (cases_eq i n) [
          | inl e ↦ subst (λ x. lead x ≢ col) (sym e) ne
          | inr other ↦ none i (omega arith)
        ])
      ]
    ]

module _ (m n : ℕ) (lead : ℕ → ℕ) (rows : ℕ → ℕ → ℕ) (reduced : IsReduced m n lead rows) where
  pub combination-lead : (c : ℕ → ℕ) (i : ℕ) → i < n → Same m (combination n rows c (lead i)) (c i)
  combination-lead c i l =
      total_one_term m n (λ k. c k * rows k (lead i)) i l
      (λ k lk ne. same-mul_left m _ 0 (c k) (reduced.clear k i lk l ne) ∙ ap (λ x. x % m) (omega arith))
      ∙ same-mul_left m _ 1 (c i) (reduced.one i l) ∙ ap (λ x. x % m) (omega arith)

  -- leads rise, so a row at or after place i leads no lower
  pub lead_at_least : (i k : ℕ) → i ≤ k → k < n → lead i ≤ lead k
  lead_at_least i k h below = elim
      (cases_eq i k) [ inl e ↦ subst (λ x. lead i ≤ lead x) e (omega arith) | inr ne ↦ omega (arith, reduced.rising i k (omega arith) below) ]

  -- two rows lead at different columns
  pub lead_apart : (i k : ℕ) → i < n → k < n → i ≢ k → lead i ≢ lead k
  lead_apart i k hi hk ne = elim (cases_lt i k) [
    | inl early ↦ omega (arith, reduced.rising i k early hk)
    | inr late ↦ omega (arith, reduced.rising k i (omega arith) hi)
  ]

  -- the lead of a row of the span is a lead of the list
  pub lead_of_span : (p : ℕ → ℕ) (col : ℕ) → InSpan m n rows p → IsLead m p col → (i : ℕ) × (i < n) × (lead i ≡ col)
  lead_of_span p col (c, pc) leads =
      elim (find_lead n lead col) [
        | inl found ↦ found
        | inr none ↦ absurd (leads.here (pc col ∙ total_vanishes m n _ (λ i l. term i l (none i l))))
      ]
    where
      coefficient : (i : ℕ) → i < n → lead i < col → Same m (c i) 0
      coefficient i l before = sym (combination-lead c i l) ∙ sym (pc (lead i)) ∙ leads.before (lead i) before

      -- either the row is still zero at the column, or its coefficient is
      term : (i : ℕ) → i < n → lead i ≢ col → Same m (c i * rows i col) 0
      term i l ne =
          elim (cases_lt (lead i) col) [
            | inl before ↦ same-mul_right m (c i) 0 (rows i col) (coefficient i l before) ∙ ap (λ x. x % m) (omega arith)
            | inr late ↦ same-mul_left m (rows i col) 0 (c i) (reduced.before i col l (omega arith)) ∙ ap (λ x. x % m) (omega arith)
          ]
