-- The binomial numbers and their sums.
use Rattle.std.proofs.Common.{◌≡◌, ℕ, ◌+◌, ◌-◌, ◌*◌, ◌/◌, ◌^◌, ◌<◌, ◌≤◌, zero, suc, refl, sym, ap, ◌∙◌, arith}
use Rattle.std.proofs.Math.Nat.{pow-le-pow_right, two-pow-succ, one-le-pow, mul-div_cancel}
use Rattle.zeta_model.specs.WordLists.{binomial, binomial_sum}

pub binomial_sum-none : (n : ℕ) → binomial_sum n 0 ≡ 0
unfolding binomial_sum
binomial_sum-none n = refl

pub binomial-none : (n : ℕ) → binomial n 0 ≡ 1
unfolding binomial
binomial-none n = refl

pub binomial_sum-next : (n d : ℕ) → binomial_sum n (d + 1) ≡ binomial_sum n d + binomial n d
unfolding binomial_sum
binomial_sum-next n d = let e : d + 1 ≡ suc d = omega arith in ap (binomial_sum n) e

binomial-above : (n r : ℕ) → n < r → binomial n r ≡ 0
unfolding binomial
binomial-above n zero h = absurd (omega arith)
binomial-above zero (suc r) h = refl
binomial-above (suc n) (suc r) h = omega (arith, binomial-above n r (omega arith), binomial-above n (suc r) (omega arith))

joins : (a b c r j : ℕ) → b * suc r ≡ a * suc j → c * suc (suc r) ≡ b * j → (b + c) * suc (suc r) ≡ (a + b) * suc j
joins a b c r j e f = grind arith

-- each is made of the one before it
binomial-absorbs : (n r k : ℕ) → r + k ≡ n → binomial n (suc r) * suc r ≡ binomial n r * k
unfolding binomial
binomial-absorbs zero zero k e = let z : k ≡ 0 = omega arith in sym (ap (λ t. 1 * t) z)
binomial-absorbs zero (suc r) k e = absurd (omega arith)
binomial-absorbs (suc n) zero zero e = absurd (omega arith)
binomial-absorbs (suc n) zero (suc k) e = let again : binomial n 1 * 1 ≡ binomial n 0 * k = binomial-absorbs n zero k (omega arith) in grind arith
binomial-absorbs (suc n) (suc r) zero e =
    let above : binomial n (suc r) ≡ 0 = binomial-above n (suc r) (omega arith) in
    let far : binomial n (suc (suc r)) ≡ 0 = binomial-above n (suc (suc r)) (omega arith) in
    grind arith
binomial-absorbs (suc n) (suc r) (suc k) e =
    joins (binomial n r) (binomial n (suc r)) (binomial n (suc (suc r))) r k (binomial-absorbs n r (suc k) (omega arith))
    (binomial-absorbs n (suc r) k (omega arith))

pub binomial-next : (n r : ℕ) → r ≤ n → binomial n r * (n - r) / (r + 1) ≡ binomial n (r + 1)
binomial-next n r h =
    let next : suc r ≡ r + 1 = omega arith in
    let e : binomial n (suc r) * suc r ≡ binomial n r * (n - r) = binomial-absorbs n r (n - r) (omega arith) in
    (λ i. sym e i / sym next i) ∙ mul-div_cancel (binomial n (suc r)) (omega arith) ∙ ap (binomial n) next

binomial-le_pow : (n r : ℕ) → binomial n r ≤ 2 ^ n
unfolding binomial
binomial-le_pow n zero = one-le-pow n 2 (omega arith)
binomial-le_pow zero (suc r) = omega arith
binomial-le_pow (suc n) (suc r) = omega (arith, binomial-le_pow n r, binomial-le_pow n (suc r), doubled)
  where
    doubled : 2 ^ suc n ≡ 2 ^ n + 2 ^ n
    doubled = two-pow-succ n

pub binomial-le : (n r : ℕ) → n ≤ 22 → binomial n r ≤ 4194304
binomial-le n r h = let p : 2 ^ n ≤ 2 ^ 22 = pow-le-pow_right (omega arith) h in omega (arith, binomial-le_pow n r)
