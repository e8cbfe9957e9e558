-- What single steps of the code answer. No public clause cites this, so a reader need not believe it.
use Rattle.std.specs.Prelude.{ℕ, List, map, slice_index}

-- the number that each element of a list stands for, and 0 past the end
abbrev pub numbers_of : {A : Type 0} → (A → ℕ) → List A → ℕ → ℕ
numbers_of value xs q = slice_index (map value xs) q
