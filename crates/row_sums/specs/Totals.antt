-- What accumulators of a sum of rows stand for.
use Rattle.std.specs.Prelude.{ℕ, List, map, slice_index}

-- the number that the accumulator of each number stands for, and 0 where there is none
abbrev pub total_at : {A : Type 0} → (A → ℕ) → List A → ℕ → ℕ
total_at total sums q = slice_index (map total sums) q
