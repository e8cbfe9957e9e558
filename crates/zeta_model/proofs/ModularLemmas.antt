-- Equality modulo m goes with sums and products, and a summand can be taken away. It is a path, so `refl`, `sym` and `∙` serve too.
use Rattle.std.proofs.Common.{◌≡◌, ℕ, ◌+◌, ◌-◌, ◌*◌, ◌%◌, ◌<◌, refl, sym, ap, subst, ◌∙◌, arith}
use Rattle.std.proofs.Math.Nat.{add-mul, mul_comm, add-mod, add-mod-mod, add-mul-mod_self_left, mod-mod}
use Rattle.std.proofs.lemmas.Nat.{mul-mod}
use Rattle.zeta_model.specs.Modular.{Same}

-- b times n, less one b
less_one : (n b : ℕ) → 0 < n → b * (n - 1) + b ≡ n * b
less_one n b h = let e : n ≡ (n - 1) + 1 = omega arith in
    subst (λ x. b * (n - 1) + b ≡ x * b) (sym e) (omega (arith, add-mul (n - 1) 1 b, mul_comm b (n - 1)))

module _ (m : ℕ) where
  pub same-add : (a b c d : ℕ) → Same m a b → Same m c d → Same m (a + c) (b + d)
  same-add a b c d p q = add-mod a c m ∙ (λ i. (p i + q i) % m) ∙ sym (add-mod b d m)

  pub same-add_right : (a b c : ℕ) → Same m a b → Same m (a + c) (b + c)
  same-add_right a b c p = same-add a b c c p refl

  pub same-add_left : (a b c : ℕ) → Same m a b → Same m (c + a) (c + b)
  same-add_left a b c p = same-add c c a b refl p

  pub same-mul : (a b c d : ℕ) → Same m a b → Same m c d → Same m (a * c) (b * d)
  same-mul a b c d p q = mul-mod a c m ∙ (λ i. (p i * q i) % m) ∙ sym (mul-mod b d m)

  pub same-mul_right : (a b c : ℕ) → Same m a b → Same m (a * c) (b * c)
  same-mul_right a b c p = same-mul a b c c p refl

  pub same-mul_left : (a b c : ℕ) → Same m a b → Same m (c * a) (c * b)
  same-mul_left a b c p = same-mul c c a b refl p

  -- a rest is as good as the number
  pub same-mod : (a : ℕ) → Same m (a % m) a
  same-mod a = mod-mod a m

  -- a multiple of m adds nothing
  pub same-multiple : (a k : ℕ) → Same m (a + m * k) a
  same-multiple a k = add-mul-mod_self_left a m k

  -- b times m - 1 takes b away
  pub same-opposite : (a b : ℕ) → 0 < m → Same m (a + b + b * (m - 1)) a
  same-opposite a b h =
      let whole : b * (m - 1) + b ≡ m * b = less_one m b h in
      let e : a + b + b * (m - 1) ≡ a + m * b = omega (arith, whole) in
      ap (λ x. x % m) e ∙ same-multiple a b

  -- a summand can be taken away on both sides
  pub same-cancel : (a b c : ℕ) → 0 < m → Same m (a + c) (b + c) → Same m a b
  same-cancel a b c h p = sym (same-opposite a c h) ∙ same-add_right (a + c) (b + c) (c * (m - 1)) p ∙ same-opposite b c h

  -- a sum with a product, each taken modulo m as it comes
  pub same-sum_of_rests : (x a y z : ℕ) → x ≡ (a + y) % m → y ≡ z % m → Same m x (a + z)
  same-sum_of_rests x a y z e f = ap (λ t. t % m) e ∙ mod-mod (a + y) m ∙ ap (λ t. (a + t) % m) f ∙ add-mod-mod a z m
