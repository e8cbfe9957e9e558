-- Newton's step for an inverse modulo a power of 2.
use Rattle.std.proofs.Common.{◌≡◌, ℕ, ◌+◌, ◌-◌, ◌*◌, ◌/◌, ◌%◌, ◌^◌, ◌<◌, ◌≤◌, sym, ap, ◌∙◌, arith, add-one, lit<}
use Rattle.std.proofs.Math.Nat.{mod-mod_of_dvd, dvd-mul_right, zero-mod, mod-add-div', two-pow-succ, pow-le-pow_right}
use Rattle.std.proofs.lemmas.Nat.{pow-add}
use Prim.Native.Nat.{◌∣◌}
use Rattle.zeta_model.specs.Modular.{Same}
use Rattle.zeta_model.proofs.ModularLemmas.{same-mul_left, same-add_right, same-mod, same-multiple}

-- a number that is wrong by a multiple of d becomes one that is wrong by a multiple of the square of d
squared : (m y next d : ℕ) → (m * y + 1) % d ≡ 0 → Same (d * d) next (y * (m * y + 2)) → (m * next + 1) % (d * d) ≡ 0
squared m y next d right e =
    let k : ℕ = (m * y + 1) / d in
    let is : m * y + 1 ≡ d * k = omega (arith, mod-add-div' (m * y + 1) d) in
    let turn : m * (y * (m * y + 2)) + 1 ≡ (m * y + 1) * (m * y + 1) = grind arith in
    let multiple : d * k * (d * k) ≡ 0 + d * d * (k * k) = grind arith in
    same-add_right (d * d) (m * next) (m * (y * (m * y + 2))) 1 (same-mul_left (d * d) next (y * (m * y + 2)) m e)
    ∙ ap (λ t. t % (d * d)) (turn ∙ ap (λ t. t * t) is ∙ multiple) ∙ same-multiple (d * d) 0 (k * k) ∙ zero-mod (d * d)

-- what is the same modulo a number is the same modulo its divisors
same-divisor : (d rest a b : ℕ) → Same (d * rest) a b → Same d a b
same-divisor d rest a b e =
    let divides : d ∣ d * rest = dvd-mul_right d rest in
    sym (mod-mod_of_dvd d a divides) ∙ ap (λ t. t % d) e ∙ mod-mod_of_dvd d b divides

-- the step in words of which the square of d is a divisor
pub newton_step : (m y next d rest base : ℕ) → base ≡ d * d * rest → (m * y + 1) % d ≡ 0 → next ≡ y * ((m * y % base + 2) % base) % base
    → (m * next + 1) % (d * d) ≡ 0
newton_step m y next d rest base whole right e =
    let inner : Same base ((m * y % base + 2) % base) (m * y + 2) =
    same-mod base (m * y % base + 2) ∙ same-add_right base (m * y % base) (m * y) 2 (same-mod base (m * y)) in
    let same : Same base next (y * (m * y + 2)) =
    ap (λ t. t % base) e ∙ same-mod base (y * ((m * y % base + 2) % base)) ∙ same-mul_left base ((m * y % base + 2) % base) (m * y + 2) y inner in
    squared m y next d right (same-divisor (d * d) rest next (y * (m * y + 2)) (ap (λ t. next % t) (sym whole) ∙ same ∙ ap (λ t. y * (m * y + 2) % t) whole))

pub square_of_power : (i : ℕ) → 2 ^ (2 ^ (i + 1)) ≡ 2 ^ (2 ^ i) * 2 ^ (2 ^ i)
square_of_power i = ap (λ t. 2 ^ t) (rw add-one (two-pow-succ i)) ∙ pow-add 2 (2 ^ i) (2 ^ i)

-- the power of 2 of a step before the last divides 2^64
pub word_by_power : (i : ℕ) → i < 6 → 2 ^ 64 ≡ 2 ^ (2 ^ i) * 2 ^ (2 ^ i) * 2 ^ (64 - 2 ^ (i + 1))
word_by_power i h =
    let below : i + 1 ≤ 6 = omega arith in
    let small : 2 ^ (i + 1) ≤ 2 ^ 6 = pow-le-pow_right {n = 2} (lit< tt) {i = i + 1} {j = 6} below in
    let whole : 2 ^ (i + 1) + (64 - 2 ^ (i + 1)) ≡ 64 = omega arith in
    ap (λ t. 2 ^ t) (sym whole) ∙ pow-add 2 (2 ^ (i + 1)) (64 - 2 ^ (i + 1)) ∙ ap (λ t. t * 2 ^ (64 - 2 ^ (i + 1))) (square_of_power i)
