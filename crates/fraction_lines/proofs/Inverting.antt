-- A number that has no divisor in common with the modulus has an inverse.
use Rattle.std.proofs.Common.{◌≡◌, ℕ, zero, suc, ◌+◌, ◌-◌, ◌*◌, ◌/◌, ◌%◌, ◌<◌, ◌≤◌, true, refl, sym, ◌∙◌, ap, arith}
use Rattle.std.specs.Int.{IsGcd}
use Rattle.std.proofs.Math.Nat.{mod-add-div', mod_self, zero-mod, mod-eq_of_lt}
use Rattle.std.proofs.lemmas.Nat.{mod_below}
use Rattle.std.proofs.lemmas.Nat.Gcd.{IsGcd-from_zero, IsGcd-from_mod, IsGcd-swap, same_from_IsGcd}
use Rattle.zeta_model.specs.Modular.{Same}
use Rattle.zeta_model.proofs.ModularLemmas.{same-mul_left, same-mul_right, same-add, same-opposite, same-mod}
use Rattle.zeta_expr.specs.Meaning.{inverse_of, has_inverse}
use Rattle.zeta_expr.proofs.InverseLemmas.{inverse_is, inverse_there}

-- Euclid's algorithm, each rest as a multiple of b modulo m
module _ (m b : ℕ) (pos : 0 < m) where
  next_multiple : (before rest x y : ℕ) → Same m before (b * x) → Same m rest (b * y)
      → Same m (before % rest) (b * (x + before / rest * y * (m - 1)))
  next_multiple before rest x y hx hy =
      let q : ℕ = before / rest in
      let parts : before % rest + q * rest ≡ before = mod-add-div' before rest in
      let left : b * (x + q * y * (m - 1)) ≡ b * x + q * (b * y) * (m - 1) = grind arith in
      let turned : Same m (q * (b * y) * (m - 1)) (q * rest * (m - 1)) =
      same-mul_right m (q * (b * y)) (q * rest) (m - 1) (same-mul_left m (b * y) rest q (sym hy)) in
      sym (ap (λ n. n % m) left
      ∙ same-add m (b * x) before (q * (b * y) * (m - 1)) (q * rest * (m - 1)) (sym hx) turned
      ∙ ap (λ n. (n + q * rest * (m - 1)) % m) (sym parts)
      ∙ same-opposite m (before % rest) (q * rest) pos)

  multiple_gcd : (n before rest x y : ℕ) → rest ≤ n → Same m before (b * x) → Same m rest (b * y)
      → (g : ℕ) × (z : ℕ) × IsGcd before rest g × Same m g (b * z)
  multiple_gcd n before zero x y l hx hy = (before, x, IsGcd-from_zero before 0 refl, hx)
  multiple_gcd zero before (suc rest) x y l hx hy = absurd (omega (arith, l))
  multiple_gcd (suc n) before (suc rest) x y l hx hy =
      let below : before % suc rest < suc rest = mod_below before (suc rest) (omega arith) in
      let (g, z, is, same) = multiple_gcd n (suc rest) (before % suc rest) y (x + before / suc rest * y * (m - 1)) (omega (arith, below, l)) hy
      (next_multiple before (suc rest) x y hx hy) in
      (g, z, IsGcd-from_mod before (suc rest) g is, same)

  some_inverse : IsGcd b m 1 → (z : ℕ) × Same m (b * z) 1
  some_inverse coprime =
      let (g, z, is, same) = multiple_gcd b m b 0 1 (omega arith) (mod_self m ∙ sym (zero-mod m) ∙ ap (λ n. n % m) (omega arith))
      (ap (λ n. n % m) (omega arith)) in
      let one : g ≡ 1 = same_from_IsGcd m b g 1 is (IsGcd-swap b m 1 coprime) in
      (z, sym same ∙ ap (λ n. n % m) one)

module _ (m b : ℕ) (big : 1 < m) (coprime : IsGcd b m 1) where
  unit : 1 % m ≡ 1
  unit = mod-eq_of_lt big

  -- the inverse below m
  below_m : (i : ℕ) × (i < m) × (b * i % m ≡ 1)
  below_m =
      let (z, same) = some_inverse m b (omega (arith, big)) coprime in
      (z % m, mod_below z m (omega (arith, big)), same-mul_left m (z % m) z b (same-mod m z) ∙ same ∙ unit)

  pub inverse_found : has_inverse m b ≡ true
  inverse_found = let (i, l, is) = below_m in inverse_there m b i big l is

  pub inverse_inverts : Same m (b * inverse_of m b) 1
  inverse_inverts = let (i, l, is) = below_m in ap (λ n. b * n % m) (inverse_is m b i big l is) ∙ is ∙ sym unit
