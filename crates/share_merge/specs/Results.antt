-- The combinations that merged shares give.
use Rattle.std.specs.Prelude.{◌≡◌, ℕ, ◌<◌, Bool, List, [], length, get_or}
use Rattle.sparse_rows.specs.Entries.{IsRow, IsBelow, AllIn}

-- a combination of so many listed relations, by rising numbers
pub record IsListed {E : Type 0} (has : E → Bool) (zero : E) (relations : ℕ) (combination : List (ℕ × E)) : Type 0 where
  pub row : IsRow (λ k. k) zero 0 combination
  pub below : IsBelow (λ k. k) relations combination
  pub in_ring : AllIn has combination

-- one for each row
pub record AreListed {E : Type 0} (has : E → Bool) (zero : E) (relations rows : ℕ) (combinations : List (List (ℕ × E))) : Type 0 where
  pub count : length combinations ≡ rows
  pub each : (i : ℕ) → i < length combinations → IsListed has zero relations (get_or combinations i [])
