-- The sign of a power of -1, modulo m.
use Rattle.std.proofs.Common.{◌≡◌, ◌≢◌, ℕ, zero, suc, ◌+◌, ◌-◌, ◌*◌, ◌%◌, ◌<◌, refl, sym, ap, ◌∙◌, arith}
use Rattle.zeta_model.specs.Modular.{Same}
use Rattle.zeta_model.specs.Regularise.{sign_of}
use Rattle.zeta_model.proofs.ModularLemmas.{same-cancel, same-multiple, same-mod}

pub even_sign : (m j v : ℕ) → j % 2 ≡ 0 → Same m v (v * sign_of m j)
even_sign m zero v e = ap (λ n. n % m) (omega arith)
even_sign m (suc zero) v e = absurd (omega arith)
even_sign m (suc (suc j)) v e = even_sign m j v (omega arith)

-- the opposite of v
opposite : (m v : ℕ) → v < m → Same m ((m - v) % m) (v * (m - 1))
opposite m v h =
    let pos : 0 < m = omega arith in
    let whole : (m - v) + v ≡ 0 + m * 1 = omega arith in
    let one : (m - 1) + 1 ≡ m = omega arith in
    let many : v * (m - 1) + v ≡ v * ((m - 1) + 1) = grind arith in
    let turn : v * ((m - 1) + 1) ≡ 0 + m * v = ap (λ n. v * n) one ∙ grind arith in
    same-mod m (m - v)
    ∙ same-cancel m (m - v) (v * (m - 1)) v pos (ap (λ n. n % m) whole ∙ same-multiple m 0 1 ∙ sym (same-multiple m 0 v) ∙ ap (λ n. n % m) (sym (many ∙ turn)))

pub odd_sign : (m j v n : ℕ) → v < m → j % 2 ≢ 0 → n ≡ (m - v) % m → Same m n (v * sign_of m j)
odd_sign m zero v n h odd is = absurd (odd refl)
odd_sign m (suc zero) v n h odd is = ap (λ x. x % m) is ∙ opposite m v h
odd_sign m (suc (suc j)) v n h odd is = odd_sign m j v n h (λ e. odd (omega arith)) is
