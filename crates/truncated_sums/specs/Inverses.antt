-- The inverse of a number modulo m.
use Rattle.std.specs.Prelude.{◌≡◌, ℕ, zero, suc, ◌*◌, ◌%◌, ◌<◌, ◌≤◌, Bool, cond, nat_eq}
use Rattle.zeta_model.specs.Inverses.{HasInverse}

-- the last number below the bound that meets the test, 0 where none does
abbrev pub last_below : ℕ → (ℕ → Bool) → ℕ
last_below zero test = 0
last_below (suc n) test = cond (test n) n (last_below n test)

-- the residue b with a b = 1 modulo m, 0 where there is none
unfoldable pub inverse_of : ℕ → ℕ → ℕ
inverse_of m a = last_below m (λ b. nat_eq (a * b % m) 1)

-- term is the least of the numbers from 1 to n without inverse, and value is its residue
pub record IsFirstWithout (m n value term : ℕ) : Type 0 where
  pub least : 1 ≤ term
  pub within : term ≤ n
  pub residue : value ≡ term % m
  pub none : ¬ (HasInverse m term)
  pub before : (a : ℕ) → 1 ≤ a → a < term → HasInverse m a
