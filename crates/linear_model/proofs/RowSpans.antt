-- Spans of rows: sums of multiples.
use Rattle.std.specs.Prelude.{◌≡◌, ℕ, ◌+◌, ◌*◌, ◌%◌}
use Rattle.std.proofs.Common.{sym, ◌∙◌, ap, arith}
use Rattle.zeta_model.proofs.ModularLemmas.{same-add, same-mul_left}
use Rattle.linear_model.specs.Rows.{combination, SameRow, InSpan}
use Rattle.linear_model.proofs.Combinations.{combination-add, combination-scaled}

module _ (m n : ℕ) (rows : ℕ → ℕ → ℕ) where
  pub same_in_row_span : (p q : ℕ → ℕ) → SameRow m p q → InSpan m n rows q → InSpan m n rows p
  same_in_row_span p q e (c, is) = (c, λ col. e col ∙ is col)

  pub row_span_add : (p q : ℕ → ℕ) (a b : ℕ) → InSpan m n rows p → InSpan m n rows q → InSpan m n rows (λ col. a * p col + b * q col)
  row_span_add p q a b (c, is) (d, ir) = (
    λ i. a * c i + b * d i,
    λ col.
        same-add m (a * p col) (a * combination n rows c col) (b * q col) (b * combination n rows d col) (same-mul_left m (p col) _ a (is col))
        (same-mul_left m (q col) _ b (ir col))
        ∙ ap (λ x. x % m) (sym (combination-add n rows (λ i. a * c i) (λ i. b * d i) col
        ∙ (λ z. combination-scaled n a rows c col z + combination-scaled n b rows d col z))),
  )
