-- Two reduced lists of one span are equal: the same count, the same leads, the same rows modulo m.
use Rattle.std.specs.Prelude.{◌≡◌, ◌≢◌, ℕ, zero, suc, ◌%◌, ◌<◌, ◌≤◌, ◌⊎◌}
use Rattle.std.proofs.Common.{sym, ◌∙◌, ap, subst, inl, inr, arith, mod-eq_of_lt}
use Rattle.std.proofs.lemmas.Bool.{cases_eq, cases_lt}
use Rattle.zeta_model.specs.Modular.{Same}
use Rattle.linear_model.specs.Rows.{SameRow, SpanWithin, SameSpan}
use Rattle.linear_model.specs.Reduced.{IsReduced}
use Rattle.linear_model.proofs.Spans.{row_in_span}
use Rattle.linear_model.proofs.ForwardLists.{reduced_is_forward, same_by_leads}
use Rattle.linear_model.proofs.ReducedLists.{lead_at_least, lead_apart, lead_of_span}

one_not_zero : (m : ℕ) → 1 < m → ¬ (Same m 1 0)
one_not_zero m h e = let a : 1 % m ≡ 1 = mod-eq_of_lt h in let b : 0 % m ≡ 0 = mod-eq_of_lt (omega arith) in absurd (omega arith)

-- the lead of a reduced row that lies in the span of another reduced list is a lead of that list
lead_of_row : (m n k : ℕ) (lead other_lead : ℕ → ℕ) (rows others : ℕ → ℕ → ℕ) → 1 < m → IsReduced m n lead rows → IsReduced m k other_lead others
    → SpanWithin m n rows k others → (i : ℕ) → i < n → (l : ℕ) × (l < k) × (other_lead l ≡ lead i)
lead_of_row m n k lead other_lead rows others big reduced others_reduced within i h =
    lead_of_span m k other_lead others others_reduced (rows i) (lead i) (within i h)
    (record { before = λ j. reduced.before i j h; here = λ e. one_not_zero m big (sym (reduced.one i h) ∙ e) })

module _ (m n k : ℕ) (lead other_lead : ℕ → ℕ) (rows others : ℕ → ℕ
    → ℕ) (big : 1 < m) (reduced : IsReduced m n lead rows) (others_reduced : IsReduced m k other_lead others) (spans : SameSpan m n rows k others) where
  there : (i : ℕ) → i < n → (l : ℕ) × (l < k) × (other_lead l ≡ lead i)
  there = lead_of_row m n k lead other_lead rows others big reduced others_reduced spans.0

  back : (i : ℕ) → i < k → (l : ℕ) × (l < n) × (lead l ≡ other_lead i)
  back = lead_of_row m k n other_lead lead others rows big others_reduced reduced spans.1

  -- the places below b have equal leads
  abbrev AgreeBelow : ℕ → Type 0
  AgreeBelow b = (i : ℕ) → i < b → i < n → (i < k) × (lead i ≡ other_lead i)

  -- a place of the other list with the lead of row i does not come before i, and the other way round
  not_earlier : (i l : ℕ) → AgreeBelow i → i < n → other_lead l ≡ lead i → i ≤ l
  not_earlier i l below h e = elim (cases_lt l i) [
    | inl early ↦ absurd (omega (arith, reduced.rising l i early h, (below l early (omega arith)).1, e))
    | inr late ↦ late
  ]

  not_earlier_back : (i l : ℕ) → AgreeBelow i → i < k → l < n → lead l ≡ other_lead i → i ≤ l
  not_earlier_back i l below h hl e = elim (cases_lt l i) [
    | inl early ↦ absurd (omega (arith, others_reduced.rising l i early h, (below l early hl).1, e))
    | inr late ↦ late
  ]

  agree_below : (b : ℕ) → AgreeBelow b
  agree_below zero i below h = absurd (omega arith)
  agree_below (suc b) i below h =
      let earlier : AgreeBelow i = λ j l. agree_below b j (omega arith) in
      let found : (l : ℕ) × (l < k) × (other_lead l ≡ lead i) = there i h in
      let late : i ≤ found.0 = not_earlier i found.0 earlier h found.2 in
      let inside : i < k = omega (arith, found.1) in
      let found_back : (l : ℕ) × (l < n) × (lead l ≡ other_lead i) = back i inside in
      let late_back : i ≤ found_back.0 = not_earlier_back i found_back.0 earlier inside found_back.1 found_back.2 in
      let low : other_lead i ≤ other_lead found.0 = lead_at_least m k other_lead others others_reduced i found.0 late found.1 in
      let low_back : lead i ≤ lead found_back.0 = lead_at_least m n lead rows reduced i found_back.0 late_back found_back.1 in
      (inside, omega (arith, found.2, found_back.2))

  -- the one list is no longer than the other
  pub count_at_most : n ≤ k
  count_at_most = elim (cases_lt k n) [
    | inl more ↦ absurd (omega (arith, (agree_below (suc k) k (omega arith) more).0))
    | inr le ↦ le
  ]

  pub leads_agree : (i : ℕ) → i < n → lead i ≡ other_lead i
  leads_agree i h = (agree_below (suc i) i (omega arith) h).1

  pub rows_agree : (i : ℕ) → i < n → SameRow m (rows i) (others i)
  rows_agree i h = same_by_leads m k other_lead others (omega arith) (reduced_is_forward m k other_lead others others_reduced) (rows i) (others i)
      (spans.0 i h) (row_in_span m k others i inside) (λ l lk. at_lead l lk (cases_eq i l))
    where
      inside : i < k
      inside = omega (arith, count_at_most)

      at_lead : (l : ℕ) → l < k → ((i ≡ l) ⊎ (i ≢ l)) → Same m (rows i (other_lead l)) (others i (other_lead l))
      at_lead l lk (inl is) = subst (λ x. Same m (rows i (other_lead x)) (others i (other_lead x))) is
          (subst (λ x. Same m (rows i x) 1) (leads_agree i h) (reduced.one i h) ∙ sym (others_reduced.one i inside))
      at_lead l lk (inr ne) =
          let found : (t : ℕ) × (t < n) × (lead t ≡ other_lead l) = back l lk in
          let apart : i ≢ found.0 = λ e. lead_apart m k other_lead others others_reduced i l inside lk ne (sym (leads_agree i h) ∙ ap lead e ∙ found.2) in
          subst (λ x. Same m (rows i x) 0) found.2 (reduced.clear i found.0 h found.1 apart) ∙ sym (others_reduced.clear i l inside lk ne)

-- so they have one count
pub counts_agree : (m n k : ℕ) (lead other_lead : ℕ → ℕ) (rows others : ℕ → ℕ → ℕ) → 1 < m → IsReduced m n lead rows → IsReduced m k other_lead others
    → SameSpan m n rows k others → n ≡ k
counts_agree m n k lead other_lead rows others big reduced others_reduced spans =
    omega (arith, count_at_most m n k lead other_lead rows others big reduced others_reduced spans, count_at_most m k n other_lead lead others rows big others_reduced reduced (spans.1, spans.0))
