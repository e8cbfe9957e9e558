-- Numbers that have an inverse modulo m.
use Rattle.std.specs.Prelude.{ℕ, ◌*◌}
use Rattle.zeta_model.specs.Modular.{Same}

-- some number times a is 1
abbrev pub HasInverse : ℕ → ℕ → Type 0
HasInverse m a = (b : ℕ) × Same m (a * b) 1
