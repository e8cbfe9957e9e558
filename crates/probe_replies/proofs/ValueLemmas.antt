-- Sums modulo m, and powers of rests.
use Rattle.std.proofs.Common.{◌≡◌, ℕ, ◌+◌, ◌%◌, ◌^◌, ap, ◌∙◌, arith}
use Rattle.std.proofs.lemmas.Nat.{pow-mod}
use Rattle.zeta_model.specs.Modular.{Same}
use Rattle.zeta_model.proofs.ModularLemmas.{same-add_left, same-add_right, same-mod}

-- one more summand
pub sum_more : (m v w k rest whole n : ℕ) → n ≡ (v + w) % m → w ≡ k % m → Same m (v + (k + rest)) whole → Same m (n + rest) whole
sum_more m v w k rest whole n e f h =
    let a : Same m n (v + k) = ap (λ x. x % m) e ∙ same-mod m (v + w) ∙ ap (λ x. (v + x) % m) f ∙ same-add_left m (k % m) k v (same-mod m k) in
    let b : (v + k) + rest ≡ v + (k + rest) = omega arith in
    same-add_right m n (v + k) rest a ∙ ap (λ x. x % m) b ∙ h

-- a power of a rest
pub power_of_rest : (m a s k r : ℕ) → r ≡ a ^ k % m → a ≡ s % m → r ≡ s ^ k % m
power_of_rest m a s k r e f = e ∙ ap (λ x. x ^ k % m) f ∙ pow-mod s k m
