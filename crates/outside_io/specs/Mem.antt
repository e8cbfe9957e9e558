-- What the objects in memory show.
use Rattle.std.specs.Prelude.{ℕ, ◌+◌, ◌-◌, ◌^◌, min, List, Bool}
use Rattle.std.specs.List.{list_any}
use Rattle.std.specs.Prelude.{◌==◌}

-- a source in memory: what is left, the number of the next call, the calls that fail, and the count of faults
pub record Bytes : Type 0 where
  pub left : List ℕ
  pub calls : ℕ
  pub fails : List ℕ
  pub faults : ℕ

-- a count that stops at the top of a u64
abbrev pub up : ℕ → ℕ
up n = min (n + 1) (2 ^ 64 - 1)

-- the call of this number is to fail
abbrev pub is_listed : List ℕ → ℕ → Bool
is_listed fails call = list_any (λ n. n == call) fails

-- a sink in memory: what it took, the number of the next call, the calls that fail, and the counts of faults and of calls that found no memory
pub record Taken : Type 0 where
  pub taken : List ℕ
  pub calls : ℕ
  pub fails : List ℕ
  pub faults : ℕ
  pub starved : ℕ
