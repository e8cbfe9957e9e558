-- Forward lists of rows, in the order in which elimination keeps them, and what a sweep over them leaves of a row.
use Rattle.std.specs.Prelude.{ℕ, ◌+◌, ◌<◌, ◌≤◌}
use Rattle.zeta_model.specs.Modular.{Same}
use Rattle.linear_model.specs.Rows.{combination, SameRow}

-- each row begins with 1 at its lead, and is zero at the leads of the rows that stand before it
pub record IsForward (m n : ℕ) (lead : ℕ → ℕ) (rows : ℕ → ℕ → ℕ) : Type 0 where
  pub one : (i : ℕ) → i < n → Same m (rows i (lead i)) 1
  pub before : (i j : ℕ) → i < n → j < lead i → Same m (rows i j) 0
  pub clear : (i k : ℕ) → i < n → k < i → Same m (rows i (lead k)) 0

-- q is p plus a combination of the rows below k, with coefficients c, and is zero at the leads of those from first on
pub record IsSwept (m first k : ℕ) (lead : ℕ → ℕ) (rows : ℕ → ℕ → ℕ) (c p q : ℕ → ℕ) : Type 0 where
  pub is : SameRow m q (λ col. p col + combination k rows c col)
  pub zero_at_leads : (i : ℕ) → first ≤ i → i < k → Same m (q (lead i)) 0
