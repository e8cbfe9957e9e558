-- Combinations with coefficients that are sums, multiples, or zero but at one place.
use Rattle.std.specs.Prelude.{◌≡◌, ◌≢◌, ℕ, ◌+◌, ◌*◌, ◌%◌, ◌<◌, cond, eqb}
use Rattle.std.proofs.Common.{refl, sym, ◌∙◌, ap, arith}
use Rattle.std.proofs.lemmas.Bool.{eq-eqb, ne_eqb}
use Rattle.zeta_model.specs.Modular.{Same}
use Rattle.linear_model.specs.Rows.{combination}
use Rattle.linear_model.proofs.Totals.{total-add, mul-total, total_alike, total_one_term}

-- a sum of coefficients gives the sum of the combinations
pub combination-add : (n : ℕ) (a : ℕ → ℕ → ℕ) (c d : ℕ → ℕ) (j : ℕ) → combination n a (λ i. c i + d i) j ≡ combination n a c j + combination n a d j
combination-add n a c d j = total_alike n _ _ (λ i. let e : (c i + d i) * a i j ≡ c i * a i j + d i * a i j = omega arith in e)
    ∙ total-add n (λ i. c i * a i j) (λ i. d i * a i j)

-- one row times f
pub combination-one : (m n : ℕ) (a : ℕ → ℕ → ℕ) (k f j : ℕ) → k < n → Same m (combination n a (λ i. cond (eqb i k) f 0) j) (f * a k j)
combination-one m n a k f j l =
    total_one_term m n (λ i. cond (eqb i k) f 0 * a i j) k l (λ i li ne. ap (λ b. (cond b f 0 * a i j) % m) (ne_eqb i k ne) ∙ ap (λ x. x % m) (omega arith))
    ∙ ap (λ b. (cond b f 0 * a k j) % m) (eq-eqb k k refl)

-- coefficients times f give f times the combination
pub combination-scaled : (n f : ℕ) (rows : ℕ → ℕ → ℕ) (c : ℕ → ℕ) (col : ℕ) → combination n rows (λ i. f * c i) col ≡ f * combination n rows c col
combination-scaled n f rows c col =
    total_alike n _ _ (λ i. let e : f * c i * rows i col ≡ f * (c i * rows i col) = omega arith in e) ∙ sym (mul-total n f (λ i. c i * rows i col))

module _ (m : ℕ) where
  -- a number at one place alone gives a multiple of the row there
  pub combination_one : (k n scale : ℕ) (rows : ℕ → ℕ → ℕ) (col : ℕ) → n < k
      → Same m (combination k rows (λ l. scale * cond (eqb n l) 1 0) col) (scale * rows n col)
  combination_one k n scale rows col h =
      total_one_term m k (λ l. scale * cond (eqb n l) 1 0 * rows l col) n h (λ l t ne. let other : n ≢ l = λ e. ne (sym e) in
      ap (λ b. (scale * cond b 1 0 * rows l col) % m) (ne_eqb n l other) ∙ ap (λ x. x % m) (omega arith))
      ∙ ap (λ b. (scale * cond b 1 0 * rows n col) % m) (eq-eqb n n refl) ∙ ap (λ x. x % m) (omega arith)
