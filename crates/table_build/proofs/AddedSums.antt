-- Sums to which combinations are added one after the other.
use Rattle.std.proofs.Common.{◌≡◌, ℕ, ◌+◌, ◌*◌, ◌%◌, sym, ◌∙◌, ap, arith}
use Rattle.zeta_model.proofs.ModularLemmas.{same-add_right}
use Rattle.linear_model.specs.Rows.{combination, SameRow}
use Rattle.linear_model.proofs.Totals.{total_one_more}

module _ (m : ℕ) where
  -- one more combination is added
  pub added_more : (i : ℕ) (rows : ℕ → ℕ → ℕ) (c start before after : ℕ → ℕ) → SameRow m before (λ q. start q + combination i rows c q)
      → SameRow m after (λ q. before q + c i * rows i q) → SameRow m after (λ q. start q + combination (i + 1) rows c q)
  added_more i rows c start before after same next q =
      next q
      ∙ same-add_right m (before q) _ (c i * rows i q) (same q)
      ∙ ap (λ x. x % m) (let e : start q + combination i rows c q + c i * rows i q ≡ start q + (combination i rows c q + c i * rows i q) = omega arith in
      e ∙ ap (λ t. start q + t) (sym (total_one_more i (λ j. c j * rows j q))))

  -- one more with the factor 0 adds nothing
  pub added_none : (i : ℕ) (rows : ℕ → ℕ → ℕ) (c start before : ℕ → ℕ) → SameRow m before (λ q. start q + combination i rows c q) → c i ≡ 0
      → SameRow m before (λ q. start q + combination (i + 1) rows c q)
  added_none i rows c start before same none =
      added_more i rows c start before before same (λ q. ap (λ x. x % m) (let e : before q ≡ before q + 0 * rows i q = omega arith in
      e ∙ ap (λ t. before q + t * rows i q) (sym none)))

  -- a row that is the same as another is so with nothing before it, and the other way round
  pub none_plus : (p q : ℕ → ℕ) → SameRow m p q → SameRow m p (λ k. 0 + q k)
  none_plus p q same k = same k ∙ ap (λ x. x % m) (let e : q k ≡ 0 + q k = omega arith in e)

  pub plus_none : (p q : ℕ → ℕ) → SameRow m p (λ k. 0 + q k) → SameRow m p q
  plus_none p q same k = same k ∙ ap (λ x. x % m) (let e : 0 + q k ≡ q k = omega arith in e)
