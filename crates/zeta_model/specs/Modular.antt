-- Equality of numbers modulo m.
use Rattle.std.specs.Prelude.{◌≡◌, ℕ, ◌%◌}

-- a and b leave the same rest
abbrev pub Same : ℕ → ℕ → ℕ → Type 0
Same m a b = a % m ≡ b % m
