-- One step of Euclid's algorithm with cofactors, on plain numbers.
use Rattle.std.proofs.Common.{◌≡◌, ℕ, ◌+◌, ◌*◌, ◌/◌, ◌%◌, ◌<◌, ◌≤◌, ap, inl, inr, arith}
use Rattle.std.proofs.Math.Nat.{mod-add-div', mul-le-mul_right, le-mul_of_pos_right}
use Rattle.std.proofs.lemmas.Bool.{cases_lt}
use Rattle.std.proofs.lemmas.Nat.{mod_below}

module _ (m before rest factor_before factor : ℕ) (whole : before * factor + rest * factor_before ≡ m) where
  pub next_whole : rest * (factor_before + before / rest * factor) + before % rest * factor ≡ m
  next_whole = omega (arith, whole, ap (λ x. x * factor) (mod-add-div' before rest))

  pub next_factor_within : 0 < rest → factor_before + before / rest * factor ≤ m
  next_factor_within some = omega (arith, next_whole, le-mul_of_pos_right (factor_before + before / rest * factor) some)

  pub next_factor_positive : 0 < rest → rest < before → 0 < factor → 0 < factor_before + before / rest * factor
  next_factor_positive some falls positive =
      elim (cases_lt (before / rest) 1) [
        | inl none ↦ let e : before / rest ≡ 0 = omega arith in
            absurd (omega (arith, mod-add-div' before rest, mod_below before rest some, ap (λ x. x * rest) e))
        | inr more ↦ omega (arith, mul-le-mul_right factor more)
      ]
