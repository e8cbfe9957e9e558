-- What the scan answers is a fraction.
use Rattle.std.proofs.Common.{◌≡◌, ℕ, zero, suc, ◌<◌, Bool, true, not, nat_eq, refl, sym, subst, arith}
use Rattle.std.specs.Int.{IsGcd}
use Rattle.std.proofs.lemmas.Bool.{ne_eqb}
use Rattle.fractions.specs.Fractions.{IsSmall, Stands, IsFraction}
use Rattle.fractions.proofs.Standing.{zero_stands}

module _ (m c : ℕ) where
  negative_answer : (rest factor : ℕ) → IsSmall m rest → IsSmall m factor → 0 < factor → IsGcd rest factor 1 → Stands m c true rest factor
      → IsFraction m c (not (nat_eq rest 0)) rest factor
  negative_answer zero factor small small_factor positive reduced stands = record {
    small_top = small;
    small_bottom = small_factor;
    divides = positive;
    reduced = reduced;
    stands = zero_stands m c true factor stands;
    unsigned_zero = λ _. refl;
  }
  negative_answer (suc rest) factor small small_factor positive reduced stands = record {
    small_top = small;
    small_bottom = small_factor;
    divides = positive;
    reduced = reduced;
    stands = subst (λ b. Stands m c (not b) (suc rest) factor) (sym (ne_eqb (suc rest) 0 (omega arith))) stands;
    unsigned_zero = λ e. absurd (omega arith);
  }

  pub is_negative : (s : Bool) (rest factor : ℕ) → s ≡ true → IsSmall m rest → IsSmall m factor → 0 < factor → IsGcd rest factor 1
      → Stands m c s rest factor → IsFraction m c (not (nat_eq rest 0)) rest factor
  is_negative s rest factor e small small_factor positive reduced stands =
      negative_answer rest factor small small_factor positive reduced (subst (λ x. Stands m c x rest factor) e stands)
