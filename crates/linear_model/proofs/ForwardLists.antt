-- A forward list is independent: its combinations are known by their entries at the leads.
use Rattle.std.specs.Prelude.{◌≡◌, ◌≢◌, ℕ, zero, suc, ◌*◌, ◌%◌, ◌<◌, ◌≤◌, ◌⊎◌, ◌↔◌}
use Rattle.std.proofs.Common.{refl, sym, ◌∙◌, ap, inl, inr, arith}
use Rattle.std.proofs.lemmas.Bool.{cases_lt}
use Rattle.zeta_model.specs.Modular.{Same}
use Rattle.zeta_model.proofs.ModularLemmas.{same-add_left, same-add_right, same-mul_left, same-mul_right, same-cancel}
use Rattle.linear_model.specs.Rows.{combination, SameRow, InSpan}
use Rattle.linear_model.specs.Reduced.{IsReduced, IsNormalForm}
use Rattle.linear_model.specs.Forward.{IsForward}
use Rattle.linear_model.proofs.Totals.{same_term}
use Rattle.linear_model.proofs.Spans.{same-combination}

module _ (m n : ℕ) (lead : ℕ → ℕ) (rows : ℕ → ℕ → ℕ) where
  -- a reduced list is a forward list
  pub reduced_is_forward : IsReduced m n lead rows → IsForward m n lead rows
  reduced_is_forward reduced = record {
    one = reduced.one;
    before = reduced.before;
    clear = λ i k h l. reduced.clear i k h (omega arith) (omega arith);
  }

  module _ (pos : 0 < m) (forward : IsForward m n lead rows) where
    -- the coefficients below b agree where two combinations agree at the leads
    agree_below : (c d : ℕ → ℕ) → ((i : ℕ) → i < n → Same m (combination n rows c (lead i)) (combination n rows d (lead i))) → (b i : ℕ) → i < b → i < n
        → Same m (c i) (d i)
    agree_below c d h zero i below l = absurd (omega arith)
    agree_below c d h (suc b) i below l =
        by_one c ∙ same_term m n (λ k. c k * rows k (lead i)) (λ k. d k * rows k (lead i)) i pos l
        (λ k lk ne. other (agree_below c d h b) k lk ne (cases_lt k i)) (h i l) ∙ sym (by_one d)
      where
        by_one : (e : ℕ → ℕ) → Same m (e i) (e i * rows i (lead i))
        by_one e = ap (λ x. x % m) (let t : e i ≡ e i * 1 = omega arith in t) ∙ same-mul_left m 1 _ (e i) (sym (forward.one i l))

        other : ((k : ℕ) → k < b → k < n → Same m (c k) (d k)) → (k : ℕ) → k < n → k ≢ i → ((k < i) ⊎ (i ≤ k))
            → Same m (c k * rows k (lead i)) (d k * rows k (lead i))
        other ih k lk ne (inl early) = same-mul_right m _ _ _ (ih k (omega arith) lk)
        other ih k lk ne (inr late) = vanish c ∙ sym (vanish d)
          where
            vanish : (e : ℕ → ℕ) → Same m (e k * rows k (lead i)) 0
            vanish e = same-mul_left m _ 0 (e k) (forward.clear k i lk (omega arith)) ∙ ap (λ x. x % m) (omega arith)

    pub coefficients_agree : (c d : ℕ → ℕ) → ((i : ℕ) → i < n → Same m (combination n rows c (lead i)) (combination n rows d (lead i))) → (i : ℕ) → i < n
        → Same m (c i) (d i)
    coefficients_agree c d h i l = agree_below c d h (suc i) i (omega arith) l

    -- two rows of the span that agree at the leads are one
    pub same_by_leads : (p q : ℕ → ℕ) → InSpan m n rows p → InSpan m n rows q → ((i : ℕ) → i < n → Same m (p (lead i)) (q (lead i))) → SameRow m p q
    same_by_leads p q (c, pc) (d, qd) h col =
        pc col ∙ same-combination m n rows c d (coefficients_agree c d (λ i l. sym (pc (lead i)) ∙ h i l ∙ qd (lead i))) col ∙ sym (qd col)

    pub normal_form_unique : (p q r : ℕ → ℕ) → IsNormalForm m n lead rows p q → IsNormalForm m n lead rows p r → SameRow m q r
    normal_form_unique p q r hq hr col =
        same-cancel m (q col) (r col) (combination n rows hr.coefficients col) pos
        (same-add_left m _ _ (q col) (sym (same col)) ∙ sym (hq.differs col) ∙ hr.differs col)
      where
        at_lead : (s : ℕ → ℕ) (g : IsNormalForm m n lead rows p s) (i : ℕ) → i < n → Same m (p (lead i)) (combination n rows g.coefficients (lead i))
        at_lead s g i l = g.differs (lead i) ∙ same-add_right m _ 0 _ (g.zero_at_leads i l) ∙ ap (λ x. x % m) (omega arith)

        same : SameRow m (combination n rows hq.coefficients) (combination n rows hr.coefficients)
        same = same_by_leads _ _ (hq.coefficients, λ _. refl) (hr.coefficients, λ _. refl) (λ i l. sym (at_lead q hq i l) ∙ at_lead r hr i l)

    -- a row lies in the span exactly where its normal form is zero
    pub in_span_iff : (p q : ℕ → ℕ) → IsNormalForm m n lead rows p q → InSpan m n rows p ↔ SameRow m q (λ _. 0)
    in_span_iff p q hq = (
      λ (c, pc). normal_form_unique p q (λ _. 0) hq
          (record { zero_at_leads = λ i l. refl; coefficients = c; differs = λ col. pc col ∙ ap (λ x. x % m) (omega arith) }),
      λ none. (hq.coefficients, λ col. hq.differs col ∙ same-add_right m _ 0 _ (none col) ∙ ap (λ x. x % m) (omega arith)),
    )
