-- Montgomery's form of the residues modulo an odd m: a stands for a times the inverse of 2^64 (Montgomery 1985).
use Rattle.std.specs.Prelude.{ℕ, ◌+◌, ◌*◌, ◌/◌, ◌%◌, ◌^◌}

-- the inverse of 2^64 modulo an odd m: half of m + 1 is the inverse of 2
unfoldable pub inverse_of_base : ℕ → ℕ
inverse_of_base m = ((m + 1) / 2) ^ 64

-- the residue that a stands for
abbrev pub residue_of : ℕ → ℕ → ℕ
residue_of m a = a * inverse_of_base m % m
