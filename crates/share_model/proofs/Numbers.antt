-- The numbers of a share.
use Rattle.std.specs.Prelude.{◌≡◌, ℕ, ◌+◌, ◌-◌, ◌*◌, ◌/◌, ◌<◌}
use Rattle.std.proofs.Common.{◌∙◌, arith, rules, mod-eq_of_lt}
use Rattle.std.proofs.Math.Nat.{add-mul-mod_self_left}
use Rattle.share_model.specs.Dealing.{InShare}

-- a number of the share is index + shares * k
pub member : (index shares n : ℕ) → index < shares → InShare index shares n → n ≡ index + shares * (n / shares)
member index shares n l e = omega (arith, e)

-- there is none besides
pub dealt : (index shares k : ℕ) → index < shares → InShare index shares (index + shares * k)
dealt index shares k l = add-mul-mod_self_left index shares k ∙ mod-eq_of_lt l

-- the count of numbers of the share below n
abbrev pub size : ℕ → ℕ → ℕ → ℕ
size n index shares = (n + (shares - 1 - index)) / shares

pub below_size : (n index shares k : ℕ) → index < shares → index + shares * k < n → k < size n index shares
below_size n index shares k l h = search rules

pub size_below : (n index shares k : ℕ) → index < shares → k < size n index shares → index + shares * k < n
size_below n index shares k l h = search rules
