-- Sweeping once through a forward list, in its order, leaves the normal form.
use Rattle.std.specs.Prelude.{◌≡◌, ◌≢◌, ℕ, zero, suc, ◌+◌, ◌*◌, ◌-◌, ◌%◌, ◌<◌, ◌≤◌, ◌⊎◌, cond, eqb}
use Rattle.std.proofs.Common.{refl, sym, ◌∙◌, ap, subst, inl, inr, arith}
use Rattle.std.proofs.lemmas.Bool.{cases_eq, eq-eqb, ne_eqb}
use Rattle.zeta_model.specs.Modular.{Same}
use Rattle.zeta_model.proofs.ModularLemmas.{same-add, same-add_left, same-add_right, same-mul_left, same-opposite}
use Rattle.linear_model.specs.Rows.{combination, SameRow}
use Rattle.linear_model.specs.Reduced.{IsNormalForm}
use Rattle.linear_model.specs.Forward.{IsForward, IsSwept}
use Rattle.linear_model.proofs.Totals.{total_vanishes}
use Rattle.linear_model.proofs.Spans.{same-combination, combination_scaled}
use Rattle.linear_model.proofs.RowSums.{undone}

module _ (m : ℕ) (lead : ℕ → ℕ) (rows : ℕ → ℕ → ℕ) where
  -- before the first row nothing is swept
  pub swept_none : (first : ℕ) (c p : ℕ → ℕ) → ((i : ℕ) → i < first → c i ≡ 0) → IsSwept m first first lead rows c p p
  swept_none first c p none = record {
    is = λ col. ap (λ x. x % m) (let e : p col ≡ p col + 0 = omega arith in e)
        ∙ same-add_left m 0 _ (p col) (sym
        (total_vanishes m first _ (λ i l. ap (λ x. (x * rows i col) % m) (none i l) ∙ ap (λ x. x % m) (let e : 0 * rows i col ≡ 0 = omega arith in e))));
    zero_at_leads = λ i l below. absurd (omega arith);
  }

  -- one row more: d k times row k is added, where d k undoes what stands at its lead
  pub swept_one_more : (n first k : ℕ) (c d p q r : ℕ → ℕ) → IsForward m n lead rows → k < n → IsSwept m first k lead rows c p q
      → ((i : ℕ) → i < k → c i ≡ d i) → Same m (q (lead k) + d k) 0 → SameRow m r (λ col. q col + d k * rows k col)
      → IsSwept m first (suc k) lead rows d p r
  swept_one_more n first k c d p q r forward h swept agree undone next = record {
    is = λ col. next col ∙ same-add_right m _ _ _ (swept.is col
        ∙ same-add_left m _ _ (p col) (same-combination m k rows c d (λ i l. ap (λ x. x % m) (agree i l)) col)) ∙ ap (λ x. x % m) (omega arith);
    zero_at_leads = λ i l below. at_lead i l (cases_eq i k) below;
  }
    where
      at_lead : (i : ℕ) → first ≤ i → ((i ≡ k) ⊎ (i ≢ k)) → i < suc k → Same m (r (lead i)) 0
      at_lead i l (inl e) below = subst (λ x. Same m (r (lead x)) 0) (sym e) (next (lead k)
          ∙ same-add_left m (d k * rows k (lead k)) (d k) _ (same-mul_left m _ 1 (d k) (forward.one k h) ∙ ap (λ x. x % m) (omega arith)) ∙ undone)
      at_lead i l (inr ne) below = next (lead i)
          ∙ same-add m _ 0 _ 0 (swept.zero_at_leads i l (omega arith)) (same-mul_left m _ 0 (d k) (forward.clear k i h (omega arith))
          ∙ ap (λ x. x % m) (omega arith))

  -- swept over all rows, what is left is the normal form
  pub normal_form_of_swept : (n : ℕ) (c p q : ℕ → ℕ) → 0 < m → IsSwept m 0 n lead rows c p q → IsNormalForm m n lead rows p q
  normal_form_of_swept n c p q pos swept = record {
    zero_at_leads = λ i l. swept.zero_at_leads i (omega arith) l;
    coefficients = λ i. c i * (m - 1);
    differs = λ col.
        sym (same-opposite m (p col) (combination n rows c col) pos)
        ∙ same-add_right m _ _ _ (sym (swept.is col))
        ∙ ap (λ x. (q col + x) % m) (sym (combination_scaled n (m - 1) c rows col));
  }

  -- the coefficients c below k, and f at k
  with_next : ℕ → ℕ → (ℕ → ℕ) → ℕ → ℕ
  with_next k f c i = cond (eqb i k) f (c i)

  -- swept over row k too, with some coefficients
  pub swept_next : (n first k f : ℕ) (p q r : ℕ → ℕ) → IsForward m n lead rows → k < n → ((c : ℕ → ℕ) × IsSwept m first k lead rows c p q)
      → Same m (q (lead k) + f) 0 → SameRow m r (λ col. q col + f * rows k col) → (d : ℕ → ℕ) × IsSwept m first (k + 1) lead rows d p r
  unfolding with_next
  swept_next n first k f p q r forward h (c, swept) undone next =
      let here : with_next k f c k ≡ f = ap (λ b. cond b f (c k)) (eq-eqb k k refl) in
      let more : suc k ≡ k + 1 = omega arith in (
        with_next k f c,
        subst (λ x. IsSwept m first x lead rows (with_next k f c) p r) more
            (swept_one_more n first k c (with_next k f c) p q r forward h swept
            (λ i l. let other : i ≢ k = omega arith in sym (ap (λ b. cond b f (c i)) (ne_eqb i k other)))
            (ap (λ x. (q (lead k) + x) % m) here ∙ undone)
            (λ col. next col ∙ ap (λ x. (q col + x * rows k col) % m) (sym here))),
      )

  -- the rows swept one after the other
  sweep : (n k : ℕ) (p : ℕ → ℕ) → 0 < m → IsForward m n lead rows → k ≤ n → (q : ℕ → ℕ) × (c : ℕ → ℕ) × IsSwept m 0 k lead rows c p q
  sweep n zero p pos forward h = (p, λ _. 0, swept_none 0 (λ _. 0) p (λ i l. refl))
  sweep n (suc k) p pos forward h =
      let (q, c, swept) = sweep n k p pos forward (omega arith) in
      let f : ℕ = (0 + q (lead k) * (m - 1)) % m in
      let r : ℕ → ℕ = λ col. q col + f * rows k col in
      let next : (d : ℕ → ℕ) × IsSwept m 0 (k + 1) lead rows d p r =
      swept_next n 0 k f p q r forward (omega arith) (c, swept) (undone m (q (lead k)) f pos refl) (λ _. refl) in
      let more : k + 1 ≡ suc k = omega arith in
      (r, next.0, subst (λ x. IsSwept m 0 x lead rows next.0 p r) more next.1)

  pub normal_form_exists : (n : ℕ) (p : ℕ → ℕ) → 0 < m → IsForward m n lead rows → (q : ℕ → ℕ) × IsNormalForm m n lead rows p q
  normal_form_exists n p pos forward =
      let swept : (q : ℕ → ℕ) × (c : ℕ → ℕ) × IsSwept m 0 n lead rows c p q = sweep n n p pos forward (omega arith) in
      (swept.0, normal_form_of_swept n swept.1 p swept.0 pos swept.2)
