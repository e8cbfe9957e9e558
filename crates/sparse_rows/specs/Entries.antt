-- Rows and combinations as lists of pairs: a key, which has a number, and a residue.
use Rattle.std.specs.Prelude.{◌≡◌, ◌≢◌, ℕ, ◌+◌, ◌<◌, ◌≤◌, Bool, true, nat_eq, if◌then◌else◌, List, [], ◌∷◌}

module _ {K E : Type 0} where
  -- what a row has at number q, and 0 where no pair has it; value says which residue an element stands for
  abbrev pub entry_of : (K → ℕ) → (E → ℕ) → List (K × E) → ℕ → ℕ
  entry_of number value [] q = 0
  entry_of number value (e ∷ es) q = (if nat_eq (number e.0) q then value e.1 else 0) + entry_of number value es q

  -- the numbers increase from low on, and no element is zero
  abbrev pub IsRow : (K → ℕ) → E → ℕ → List (K × E) → Type 0
  IsRow number zero low [] = Unit {0}
  IsRow number zero low (e ∷ es) = (low ≤ number e.0) × (e.1 ≢ zero) × IsRow number zero (number e.0 + 1) es

  -- the numbers are below high
  abbrev pub IsBelow : (K → ℕ) → ℕ → List (K × E) → Type 0
  IsBelow number high [] = Unit {0}
  IsBelow number high (e ∷ es) = (number e.0 < high) × IsBelow number high es

  -- the elements are of the ring
  abbrev pub AllIn : (E → Bool) → List (K × E) → Type 0
  AllIn has [] = Unit {0}
  AllIn has (e ∷ es) = (has e.1 ≡ true) × AllIn has es
