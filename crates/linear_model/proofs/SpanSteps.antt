-- The span of a list of rows and one row more.
use Rattle.std.proofs.Common.{◌≡◌, ◌≢◌, ℕ, ◌+◌, ◌*◌, ◌%◌, ◌<◌, ◌⊎◌, cond, eqb, inl, inr, refl, sym, ◌∙◌, ap, subst, arith}
use Rattle.std.proofs.lemmas.Bool.{cases_eq, eq-eqb, ne_eqb}
use Rattle.zeta_model.specs.Modular.{Same}
use Rattle.zeta_model.proofs.ModularLemmas.{same-add}
use Rattle.linear_model.specs.Rows.{combination, SameRow, InSpan, SpanWithin, SameSpan, rows_and}
use Rattle.linear_model.proofs.Totals.{total_one_more, same-total}
use Rattle.linear_model.proofs.Spans.{row_in_span, same-combination}

module _ (m k : ℕ) (rows : ℕ → ℕ → ℕ) where
  pub rows_and-last : (p : ℕ → ℕ) → rows_and k rows p k ≡ p
  rows_and-last p = ap (λ b. cond b p (rows k)) (eq-eqb k k refl)

  pub rows_and-before : (p : ℕ → ℕ) (i : ℕ) → i ≢ k → rows_and k rows p i ≡ rows i
  rows_and-before p i ne = ap (λ b. cond b p (rows i)) (ne_eqb i k ne)

  same-combination_rows_and : (p c : ℕ → ℕ) (col : ℕ) → Same m (combination (k + 1) (rows_and k rows p) c col) (combination k rows c col + c k * p col)
  same-combination_rows_and p c col =
      ap (λ x. x % m) (total_one_more k (λ i. c i * rows_and k rows p i col))
      ∙ same-add m _ _ _ _ (same-total m k _ _ (λ i l. let ne : i ≢ k = omega arith in
      ap (λ r. (c i * r col) % m) (rows_and-before p i ne))) (ap (λ r. (c k * r col) % m) (rows_and-last p))

  -- a times p and a combination of the rows lies in the span of the rows and p
  pub in_span_and : (a : ℕ) (u p f : ℕ → ℕ) → SameRow m f (λ col. a * p col + combination k rows u col) → InSpan m (k + 1) (rows_and k rows p) f
  in_span_and a u p f is =
      let c : ℕ → ℕ = λ i. cond (eqb i k) a (u i) in
      let last : c k ≡ a = ap (λ b. cond b a (u k)) (eq-eqb k k refl) in (
        c,
        λ col.
            is col
            ∙ ap (λ x. x % m) (let e : a * p col + combination k rows u col ≡ combination k rows u col + a * p col = omega arith in e)
            ∙ same-add m _ _ _ _ (same-combination m k rows u c (λ i l. let ne : i ≢ k = omega arith in
            ap (λ b. cond b a (u i) % m) (sym (ne_eqb i k ne))) col) (ap (λ x. (x * p col) % m) (sym last))
            ∙ sym (same-combination_rows_and p c col),
      )

  -- so the rows and f lie in the span of the rows and p
  pub span_within_and : (a : ℕ) (u p f : ℕ → ℕ) → SameRow m f (λ col. a * p col + combination k rows u col)
      → SpanWithin m (k + 1) (rows_and k rows f) (k + 1) (rows_and k rows p)
  span_within_and a u p f is i l = go (cases_eq i k)
    where
      go : ((i ≡ k) ⊎ (i ≢ k)) → InSpan m (k + 1) (rows_and k rows p) (rows_and k rows f i)
      go (inl e) = subst (InSpan m (k + 1) (rows_and k rows p)) (sym (ap (rows_and k rows f) e ∙ rows_and-last f)) (in_span_and a u p f is)
      go (inr ne) = subst (InSpan m (k + 1) (rows_and k rows p)) (rows_and-before p i ne
          ∙ sym (rows_and-before f i ne)) (row_in_span m (k + 1) (rows_and k rows p) i l)

  -- a row of the span adds nothing to it
  pub same_span_none : (p : ℕ → ℕ) → InSpan m k rows p → SameSpan m (k + 1) (rows_and k rows p) k rows
  same_span_none p lies = (
    λ i l. go i l (cases_eq i k),
    λ i l. let ne : i ≢ k = omega arith in
        subst (InSpan m (k + 1) (rows_and k rows p)) (rows_and-before p i ne) (row_in_span m (k + 1) (rows_and k rows p) i (omega arith)),
  )
    where
      go : (i : ℕ) → i < k + 1 → ((i ≡ k) ⊎ (i ≢ k)) → InSpan m k rows (rows_and k rows p i)
      go i l (inl e) = subst (InSpan m k rows) (sym (ap (rows_and k rows p) e ∙ rows_and-last p)) lies
      go i l (inr ne) = subst (InSpan m k rows) (sym (rows_and-before p i ne)) (row_in_span m k rows i (omega arith))
