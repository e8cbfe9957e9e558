-- What single steps of the code answer. No public clause cites these, so a reader need not believe them.
-- Here: one step of the merge of two rows, the key that comes first, and what stands there.
use Rattle.std.specs.Prelude.{ℕ, ◌+◌, ◌<◌, ◌≤◌, nat_eq, if◌then◌else◌, Option, Some, None, List, [], ◌∷◌}

module _ {K E : Type 0} where
  -- 1 where the first pair has number q, else 0
  abbrev pub begins : (K → ℕ) → ℕ → List (K × E) → ℕ
  begins number q [] = 0
  begins number q (e ∷ es) = if nat_eq (number e.0) q then 1 else 0

  -- no pair comes before number q, where the numbers increase
  abbrev pub NotBefore : (K → ℕ) → ℕ → List (K × E) → Type 0
  NotBefore number q [] = Unit {0}
  NotBefore number q (e ∷ es) = q ≤ number e.0

  -- number q begins one of two rows, and none begins before it
  pub record IsFirst (number : K → ℕ) (q : ℕ) (left right : List (K × E)) : Type 0 where
    pub left_later : NotBefore number q left
    pub right_later : NotBefore number q right
    pub begins_one : 0 < begins number q left + begins number q right

-- the residue of an element, and 0 where there is none
abbrev pub value_or_zero : {E : Type 0} → (E → ℕ) → Option E → ℕ
value_or_zero value None = 0
value_or_zero value (Some a) = value a
