-- Gauss's lemma: what divides a q and b q divides q, where a and b have no common factor.
use Rattle.std.proofs.Common.{◌≡◌, ℕ, zero, suc, ◌+◌, ◌-◌, ◌*◌, ◌≤◌, sym, ap, subst, ◌∙◌, inl, inr, arith}
use Prim.Native.Nat.{◌∣◌}
use Rattle.std.proofs.Math.Nat.{dvd-add, dvd-add_iff_right, one-dvd, one-mul, eq-one_of_dvd-one}
use Rattle.std.specs.Int.{IsGcd}
use Rattle.std.proofs.lemmas.Bool.{cases_lt}
use Rattle.std.proofs.lemmas.Nat.Gcd.{dvd_refl, dvd-zero}

coprime_rest : (a b t : ℕ) → b ≡ a + t → IsGcd a b 1 → IsGcd a t 1
coprime_rest a b t e is = (one-dvd a, one-dvd t, λ d da dt. is.2 d da (subst (λ x. d ∣ x) (sym e) (dvd-add d da dt)))

dvd_rest : (a b t q d : ℕ) → b ≡ a + t → d ∣ a * q → d ∣ b * q → d ∣ t * q
dvd_rest a b t q d e da db =
    let parts : b * q ≡ a * q + t * q = ap (λ x. x * q) e ∙ grind arith in
    (dvd-add_iff_right d da).1 (subst (λ x. d ∣ x) parts db)

swapped : (a b : ℕ) → IsGcd a b 1 → IsGcd b a 1
swapped a b is = (is.1, is.0, λ d db da. is.2 d da db)

gauss_within : (k a b d q : ℕ) → a + b ≤ k → IsGcd a b 1 → d ∣ a * q → d ∣ b * q → d ∣ q
gauss_within k zero b d q h is da db =
    let one : b ≡ 1 = eq-one_of_dvd-one (is.2 b (dvd-zero b) (dvd_refl b)) in
    subst (λ x. d ∣ x) (ap (λ x. x * q) one ∙ one-mul q) db
gauss_within k (suc a) zero d q h is da db =
    let one : suc a ≡ 1 = eq-one_of_dvd-one (is.2 (suc a) (dvd_refl (suc a)) (dvd-zero (suc a))) in
    subst (λ x. d ∣ x) (ap (λ x. x * q) one ∙ one-mul q) da
gauss_within zero (suc a) (suc b) d q h is da db = absurd (omega arith)
gauss_within (suc k) (suc a) (suc b) d q h is da db =
    elim (cases_lt a b) [
      | inl less ↦
          let e : suc b ≡ suc a + (b - a) = omega arith in
          gauss_within k (suc a) (b - a) d q (omega arith) (coprime_rest (suc a) (suc b) (b - a) e is) da (dvd_rest (suc a) (suc b) (b - a) q d e da db)
      | inr most ↦
          let e : suc a ≡ suc b + (a - b) = omega arith in
          gauss_within k (a - b) (suc b) d q (omega arith) (swapped (suc b) (a - b) (coprime_rest (suc b) (suc a) (a - b) e (swapped (suc a) (suc b) is)))
          (dvd_rest (suc b) (suc a) (a - b) q d e db da) db
    ]

pub gauss : (a b d q : ℕ) → IsGcd a b 1 → d ∣ a * q → d ∣ b * q → d ∣ q
gauss a b d q is da db = gauss_within (a + b) a b d q (omega arith) is da db
