-- Montgomery's reduction, and what is read of a form.
use Rattle.std.proofs.Common.{◌≡◌, ℕ, ◌+◌, ◌*◌, ◌/◌, ◌%◌, ◌^◌, ◌<◌, ◌≤◌, sym, ap, ◌∙◌, arith}
use Rattle.std.proofs.Math.Nat.{mod-add-div', zero-mod}
use Rattle.std.proofs.lemmas.Nat.{mod_below}
use Rattle.zeta_model.specs.Modular.{Same}
use Rattle.zeta_model.proofs.ModularLemmas.{same-add_left, same-mul_left, same-mul_right, same-mod, same-multiple}
use Rattle.odd_residues.specs.Montgomery.{residue_of}
use Rattle.odd_residues.specs.MontgomeryLaws.{same-by_inverse, residue-injective, residue-below, residue-one, residue-product}

-- the multiple of m that is added makes the sum a multiple of the base
whole-mod-base : (m base negated sum factor : ℕ) → (m * negated + 1) % base ≡ 0 → factor ≡ sum % base * negated % base → (sum + factor * m) % base ≡ 0
whole-mod-base m base negated sum factor is e =
    let same : Same base factor (sum * negated) =
    ap (λ t. t % base) e ∙ same-mod base (sum % base * negated) ∙ same-mul_right base (sum % base) sum negated (same-mod base sum) in
    let turn : sum + sum * negated * m ≡ sum * (m * negated + 1) = grind arith in
    let none : sum * 0 ≡ 0 = omega arith in
    same-add_left base (factor * m) (sum * negated * m) sum (same-mul_right base factor (sum * negated) m same) ∙ ap (λ t. t % base) turn
    ∙ same-mul_left base (m * negated + 1) 0 sum (is ∙ sym (zero-mod base)) ∙ ap (λ t. t % base) none ∙ zero-mod base

pub reduction : (m base inverse negated sum factor : ℕ) → Same m (base * inverse) 1 → (m * negated + 1) % base ≡ 0
    → factor ≡ sum % base * negated % base → (sum + factor * m) / base % m ≡ sum * inverse % m
reduction m base inverse negated sum factor unit is e =
    let high : ℕ = (sum + factor * m) / base in
    let exact : high * base ≡ sum + m * factor = omega (arith, mod-add-div' (sum + factor * m) base, whole-mod-base m base negated sum factor is e) in
    same-by_inverse m base inverse high sum unit (ap (λ t. t % m) exact ∙ same-multiple m sum factor)

-- where the product of the values is 1, that of the elements is the one
pub one-of_values : (m a b n : ℕ) → 3 ≤ m → m % 2 ≡ 1 → residue_of m b ≡ n % m → residue_of m a * n % m ≡ 1
    → residue_of m (a * b) ≡ 2 ^ 64 % m
one-of_values m a b n h odd value e =
    let one_below : 2 ^ 64 % m < m = mod_below (2 ^ 64) m (omega arith) in
    residue-injective m (residue_of m (a * b)) (2 ^ 64 % m) odd (residue-below m (a * b) h) one_below
    (residue-product m a b ∙ ap (λ t. residue_of m a * t % m) value ∙ same-mul_left m (n % m) n (residue_of m a) (same-mod m n) ∙ e
    ∙ sym (residue-one m h odd))
