-- Combinations of rows, and what lies in a span.
use Rattle.std.specs.Prelude.{◌≡◌, ℕ, ◌+◌, ◌*◌, ◌%◌, ◌<◌, ◌≤◌, ◌⊎◌, cond, eqb}
use Rattle.std.proofs.Common.{refl, sym, ◌∙◌, ap, inl, inr, arith}
use Rattle.std.proofs.lemmas.Bool.{cases_lt, eq-eqb, ne_eqb}
use Rattle.zeta_model.specs.Modular.{Same}
use Rattle.zeta_model.proofs.ModularLemmas.{same-add_right, same-mul_right, same-mul_left, same-mod}
use Rattle.linear_model.specs.Rows.{total, combination, SameRow, InSpan, SpanWithin}
use Rattle.linear_model.proofs.Totals.{total_one_more, mul-total, total-mul, total-total, total_alike, same-total, total_one_term}

-- a combination of combinations is a combination of the rows beneath
pub combination-combination : (n k : ℕ) (c : ℕ → ℕ) (d rows : ℕ → ℕ → ℕ) (col : ℕ)
    → combination n (λ i. combination k rows (d i)) c col ≡ combination k rows (combination n d c) col
combination-combination n k c d rows col =
    total_alike n _ _ (λ i. mul-total k (c i) (λ l. d i l * rows l col))
    ∙ total-total n k (λ i l. c i * (d i l * rows l col))
    ∙ total_alike k _ _ (λ l. total_alike n _ _ (λ i. let e : c i * (d i l * rows l col) ≡ c i * d i l * rows l col = omega arith in e)
    ∙ sym (total-mul n (rows l col) (λ i. c i * d i l)))

-- coefficients times a number give the combination times that number
pub combination_scaled : (n w : ℕ) (c : ℕ → ℕ) (rows : ℕ → ℕ → ℕ) (col : ℕ) → combination n rows (λ i. c i * w) col ≡ combination n rows c col * w
combination_scaled n w c rows col =
    total_alike n _ _ (λ i. let e : c i * w * rows i col ≡ c i * rows i col * w = omega arith in e)
    ∙ sym (total-mul n w (λ i. c i * rows i col))

module _ (m : ℕ) where
  -- coefficients that agree modulo m give one row
  pub same-combination : (n : ℕ) (rows : ℕ → ℕ → ℕ) (c d : ℕ → ℕ) → ((i : ℕ) → i < n → Same m (c i) (d i))
      → SameRow m (combination n rows c) (combination n rows d)
  same-combination n rows c d h col = same-total m n _ _ (λ i l. same-mul_right m _ _ (rows i col) (h i l))

  -- the residue of a combination, one row after the other
  pub combination_one_more : (n : ℕ) (rows : ℕ → ℕ → ℕ) (c : ℕ → ℕ) (col sum next : ℕ) → sum ≡ combination n rows c col % m
      → next ≡ (sum + c n * rows n col) % m → next ≡ combination (n + 1) rows c col % m
  combination_one_more n rows c col sum next before added =
      added
      ∙ same-add_right m sum (combination n rows c col) (c n * rows n col) (ap (λ x. x % m) before ∙ same-mod m (combination n rows c col))
      ∙ ap (λ x. x % m) (sym (total_one_more n (λ i. c i * rows i col)))

  -- a row of the list is in its span
  pub row_in_span : (n : ℕ) (rows : ℕ → ℕ → ℕ) (i : ℕ) → i < n → InSpan m n rows (rows i)
  row_in_span n rows i h = (
    λ k. cond (eqb k i) 1 0,
    λ col. sym (
        total_one_term m n (λ k. cond (eqb k i) 1 0 * rows k col) i h (λ k l ne. ap (λ b. (cond b 1 0 * rows k col) % m) (ne_eqb k i ne)
        ∙ ap (λ x. x % m) (omega arith))
        ∙ ap (λ b. (cond b 1 0 * rows i col) % m) (eq-eqb i i refl) ∙ ap (λ x. x % m) (omega arith)
        ),
  )

  module _ (n k : ℕ) (rows others : ℕ → ℕ → ℕ) (within : SpanWithin m n rows k others) where
    -- the coefficients of row i, and zeros past the last row
    coefficients_of : (i : ℕ) → (i < n) ⊎ (n ≤ i) → ℕ → ℕ
    coefficients_of i (inl h) = (within i h).0
    coefficients_of i (inr h) = λ _. 0

    row_from_others : (i : ℕ) → i < n → (t : (i < n) ⊎ (n ≤ i)) → SameRow m (rows i) (combination k others (coefficients_of i t))
    unfolding coefficients_of
    row_from_others i h (inl l) = (within i l).1
    row_from_others i h (inr l) = absurd (omega arith)

    -- what lies in a span of rows that lie in another span lies there too
    pub span_through : (p : ℕ → ℕ) → InSpan m n rows p → InSpan m k others p
    span_through p (c, is) =
        let d : ℕ → ℕ → ℕ = λ i. coefficients_of i (cases_lt i n) in (
          λ l. total n (λ i. c i * d i l),
          λ col.
              is col
              ∙ same-total m n _ _ (λ i h. same-mul_left m _ _ (c i) (row_from_others i h (cases_lt i n) col))
              ∙ ap (λ x. x % m) (combination-combination n k c d others col),
        )
