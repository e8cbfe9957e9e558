-- Reduced lists of rows, and the normal form of a row by such a list. The lead of row i is column lead i.
use Rattle.std.specs.Prelude.{◌≢◌, ℕ, ◌+◌, ◌<◌}
use Rattle.zeta_model.specs.Modular.{Same}
use Rattle.linear_model.specs.Rows.{combination, SameRow}

-- column col is the first at which p is not zero
pub record IsLead (m : ℕ) (p : ℕ → ℕ) (col : ℕ) : Type 0 where
  pub before : (j : ℕ) → j < col → Same m (p j) 0
  pub here : ¬ (Same m (p col) 0)

-- each row begins with 1 at its lead, the leads increase, and each lead column is zero in every other row
pub record IsReduced (m n : ℕ) (lead : ℕ → ℕ) (rows : ℕ → ℕ → ℕ) : Type 0 where
  pub one : (i : ℕ) → i < n → Same m (rows i (lead i)) 1
  pub before : (i j : ℕ) → i < n → j < lead i → Same m (rows i j) 0
  pub rising : (i k : ℕ) → i < k → k < n → lead i < lead k
  pub clear : (i k : ℕ) → i < n → k < n → i ≢ k → Same m (rows i (lead k)) 0

-- q is zero at all leads, and p is q plus a combination of the rows: for a reduced list, q is nf(p)
pub record IsNormalForm (m n : ℕ) (lead : ℕ → ℕ) (rows : ℕ → ℕ → ℕ) (p q : ℕ → ℕ) : Type 0 where
  pub zero_at_leads : (i : ℕ) → i < n → Same m (q (lead i)) 0
  pub coefficients : ℕ → ℕ
  pub differs : SameRow m p (λ col. q col + combination n rows coefficients col)
