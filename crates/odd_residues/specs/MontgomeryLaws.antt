-- Facts on numbers that the laws of the ring of odd moduli cite.
use Rattle.std.specs.Prelude.{◌≡◌, ℕ, ◌+◌, ◌-◌, ◌*◌, ◌/◌, ◌%◌, ◌^◌, ◌<◌, ◌≤◌, refl}
use Rattle.std.proofs.Common.{sym, ap, ◌∙◌, arith, ltb, true}
use Rattle.std.proofs.lemmas.Bool.{lt-ltb}
use Rattle.std.proofs.Math.Nat.{mod-eq_of_lt, mod-mod, zero-mod, mod_self, zero-mul, add-mod-mod}
use Rattle.std.proofs.lemmas.Nat.{mul-pow, mul-mod_first, pow-mod, mod_below}
use Rattle.zeta_model.specs.Modular.{Same}
use Rattle.zeta_model.proofs.ModularLemmas.{same-add, same-mul, same-mul_left, same-mul_right, same-mod, same-multiple, same-cancel}
use Rattle.odd_residues.specs.Montgomery.{inverse_of_base, residue_of}

-- the inverse of the base does what it is to
pub base-inverse_of_base : (m : ℕ) → m % 2 ≡ 1 → Same m (2 ^ 64 * inverse_of_base m) 1
unfolding inverse_of_base
base-inverse_of_base m odd =
    let half : ℕ = (m + 1) / 2 in
    let twice : 2 * half ≡ 1 + m * 1 = omega arith in
    let unit : Same m (2 * half) 1 = ap (λ t. t % m) twice ∙ same-multiple m 1 1 in
    ap (λ t. t % m) (sym (mul-pow 2 half 64)) ∙ sym (pow-mod (2 * half) 64 m) ∙ ap (λ t. t ^ 64 % m) unit ∙ pow-mod 1 64 m

-- what gives s times the base is s times the inverse, ..
pub same-by_inverse : (m base inverse r s : ℕ) → Same m (base * inverse) 1 → Same m (r * base) s → Same m r (s * inverse)
same-by_inverse m base inverse r s unit gives =
    let once : r * 1 ≡ r = omega arith in
    let turn : r * (base * inverse) ≡ r * base * inverse = grind arith in
    ap (λ t. t % m) (sym once) ∙ sym (same-mul_left m (base * inverse) 1 r unit) ∙ ap (λ t. t % m) turn ∙ same-mul_right m (r * base) s inverse gives

-- .. and the other way round
pub same-by_base : (m base inverse r s : ℕ) → Same m (base * inverse) 1 → Same m r (s * inverse) → Same m (r * base) s
same-by_base m base inverse r s unit is =
    let once : s * 1 ≡ s = omega arith in
    let turn : s * inverse * base ≡ s * (base * inverse) = grind arith in
    same-mul_right m r (s * inverse) base is ∙ ap (λ t. t % m) turn ∙ same-mul_left m (base * inverse) 1 s unit ∙ ap (λ t. t % m) once

pub residue-below : (m a : ℕ) → 3 ≤ m → residue_of m a < m
residue-below m a h = mod_below (a * inverse_of_base m) m (omega arith)

pub lt-residue : (m a : ℕ) → 3 ≤ m → ltb (residue_of m a) m ≡ true
lt-residue m a h = lt-ltb (residue_of m a) m (residue-below m a h)

-- the residue times the base is the number that stands for it
same-residue_base : (m a : ℕ) → m % 2 ≡ 1 → Same m (residue_of m a * 2 ^ 64) a
same-residue_base m a odd =
    same-by_base m (2 ^ 64) (inverse_of_base m) (residue_of m a) a (base-inverse_of_base m odd) (same-mod m (a * inverse_of_base m))

pub residue-injective : (m a b : ℕ) → m % 2 ≡ 1 → a < m → b < m → residue_of m a ≡ residue_of m b → a ≡ b
residue-injective m a b odd a_below b_below e =
    sym (mod-eq_of_lt a_below) ∙ sym (same-residue_base m a odd) ∙ ap (λ t. t * 2 ^ 64 % m) e ∙ same-residue_base m b odd ∙ mod-eq_of_lt b_below

pub residue-zero : (m : ℕ) → residue_of m 0 ≡ 0
residue-zero m = ap (λ t. t % m) (zero-mul (inverse_of_base m)) ∙ zero-mod m

pub residue-one : (m : ℕ) → 3 ≤ m → m % 2 ≡ 1 → residue_of m (2 ^ 64 % m) ≡ 1
residue-one m h odd =
    let small : 1 < m = omega arith in
    mul-mod_first (2 ^ 64) (inverse_of_base m) m ∙ base-inverse_of_base m odd ∙ mod-eq_of_lt small

-- the residues of numbers that are the same are equal
pub residue-same : (m a b : ℕ) → Same m a b → residue_of m a ≡ residue_of m b
residue-same m a b e = same-mul_right m a b (inverse_of_base m) e

pub residue-add : (m a b : ℕ) → residue_of m (a + b) ≡ (residue_of m a + residue_of m b) % m
residue-add m a b =
    let inverse : ℕ = inverse_of_base m in
    let spread : (a + b) * inverse ≡ a * inverse + b * inverse = grind arith in
    ap (λ t. t % m) spread
    ∙ sym (same-add m (residue_of m a) (a * inverse) (residue_of m b) (b * inverse) (same-mod m (a * inverse)) (same-mod m (b * inverse)))

pub residue-rest_add : (m a b : ℕ) → residue_of m ((a + b) % m) ≡ (residue_of m a + residue_of m b) % m
residue-rest_add m a b = residue-same m ((a + b) % m) (a + b) (same-mod m (a + b)) ∙ residue-add m a b

pub residue-neg : (m a : ℕ) → 3 ≤ m → a < m → residue_of m ((m - a) % m) ≡ (m - residue_of m a) % m
residue-neg m a h below =
    let r : ℕ = residue_of m a in
    let positive : 0 < m = omega arith in
    let r_below : r < m = residue-below m a h in
    let whole : m - a + a ≡ m = omega arith in
    let rest : m - r + r ≡ m = omega arith in
    let nothing : (residue_of m (m - a) + r) % m ≡ 0 =
    sym (residue-add m (m - a) a) ∙ ap (residue_of m) whole ∙ residue-same m m 0 (mod_self m ∙ sym (zero-mod m)) ∙ residue-zero m in
    let same : Same m (residue_of m (m - a)) (m - r) =
    same-cancel m (residue_of m (m - a)) (m - r) r positive (nothing ∙ sym (ap (λ t. t % m) rest ∙ mod_self m)) in
    residue-same m ((m - a) % m) (m - a) (same-mod m (m - a)) ∙ sym (mod-mod ((m - a) * inverse_of_base m) m) ∙ same

pub residue-product : (m a b : ℕ) → residue_of m (residue_of m (a * b)) ≡ residue_of m a * residue_of m b % m
residue-product m a b =
    let inverse : ℕ = inverse_of_base m in
    let turn : a * b * inverse * inverse ≡ a * inverse * (b * inverse) = grind arith in
    residue-same m (residue_of m (a * b)) (a * b * inverse) (same-mod m (a * b * inverse)) ∙ ap (λ t. t % m) turn
    ∙ sym (same-mul m (residue_of m a) (a * inverse) (residue_of m b) (b * inverse) (same-mod m (a * inverse)) (same-mod m (b * inverse)))

-- two inverses undo two bases
form : (m base inverse n : ℕ) → Same m (base * inverse) 1 → n * (base * base % m) * inverse % m * inverse % m ≡ n % m
form m base inverse n unit =
    let square : Same m (n * (base * base % m)) (n * (base * base)) = same-mul_left m (base * base % m) (base * base) n (same-mod m (base * base)) in
    let turn : n * (base * base) ≡ n * base * base = grind arith in
    let first : Same m (n * base) (n * (base * base % m) * inverse) =
    same-by_inverse m base inverse (n * base) (n * (base * base % m)) unit (ap (λ t. t % m) (sym turn) ∙ sym square) in
    mul-mod_first (n * (base * base % m) * inverse) inverse m ∙ sym (same-mul_right m (n * base) (n * (base * base % m) * inverse) inverse first)
    ∙ sym (same-by_inverse m base inverse n (n * base) unit refl)

-- the form of n is the residue of n times the square of the base
pub residue-form : (m n : ℕ) → m % 2 ≡ 1 → residue_of m (residue_of m (n * (2 ^ 128 % m))) ≡ n % m
residue-form m n odd = form m (2 ^ 64) (inverse_of_base m) n (base-inverse_of_base m odd)

-- one more product in a sum
pub residue-add_product : (m after before a b : ℕ) → Same m after (before + a * b)
    → Same m (residue_of m (residue_of m after)) (residue_of m (residue_of m before) + residue_of m a * residue_of m b)
residue-add_product m after before a b e =
    let r : ℕ = residue_of m (residue_of m before) in
    ap (λ t. residue_of m t % m) (residue-same m after (before + a * b) e ∙ residue-add m before (a * b))
    ∙ ap (λ t. t % m) (residue-rest_add m (residue_of m before) (residue_of m (a * b)))
    ∙ mod-mod (r + residue_of m (residue_of m (a * b))) m ∙ ap (λ t. (r + t) % m) (residue-product m a b)
    ∙ add-mod-mod r (residue_of m a * residue_of m b) m
