-- Words of one length as binary numbers: the order of words is that of the numbers.
use Rattle.std.specs.Prelude.{◌≡◌, ℕ, zero, suc, ◌+◌, ◌<◌, List, [], ◌∷◌, length}
use Rattle.std.proofs.Common.{refl, ap, arith}
use Rattle.zeta_model.specs.declared.Letter.{Letter}
use Rattle.zeta_model.specs.declared.Letter.TheVariants.{X, Y}
use Rattle.lyndon_words.specs.Lyndon.{IsBefore}

pub power : ℕ → ℕ
power zero = 1
power (suc n) = power n + power n

-- x is the digit 0, y the digit 1
pub number : List Letter → ℕ
number [] = 0
number (X ∷ w) = number w
number (Y ∷ w) = power (length w) + number w

pub number-bound : (w : List Letter) → number w < power (length w)
unfolding number power
number-bound [] = omega arith
number-bound (X ∷ w) = omega (arith, number-bound w)
number-bound (Y ∷ w) = omega (arith, number-bound w)

pub less_before : (u v : List Letter) → length u ≡ length v → number u < number v → IsBefore u v
unfolding number power
less_before [] [] e h = absurd (omega arith)
less_before [] (b ∷ v) e h = absurd (omega arith)
less_before (a ∷ u) [] e h = absurd (omega arith)
less_before (X ∷ u) (X ∷ v) e h = less_before u v (omega arith) h
less_before (X ∷ u) (Y ∷ v) e h = refl
less_before (Y ∷ u) (X ∷ v) e h = let same : power (length u) ≡ power (length v) = ap power (omega arith) in absurd (omega (arith, number-bound v))
less_before (Y ∷ u) (Y ∷ v) e h = let same : power (length u) ≡ power (length v) = ap power (omega arith) in less_before u v (omega arith) (omega arith)

pub number-injective : (u v : List Letter) → length u ≡ length v → number u ≡ number v → u ≡ v
unfolding number power
number-injective [] [] e h = refl
number-injective [] (b ∷ v) e h = absurd (omega arith)
number-injective (a ∷ u) [] e h = absurd (omega arith)
number-injective (X ∷ u) (X ∷ v) e h = ap (λ w. X ∷ w) (number-injective u v (omega arith) h)
number-injective (X ∷ u) (Y ∷ v) e h = let same : power (length u) ≡ power (length v) = ap power (omega arith) in absurd (omega (arith, number-bound u))
number-injective (Y ∷ u) (X ∷ v) e h = let same : power (length u) ≡ power (length v) = ap power (omega arith) in absurd (omega (arith, number-bound v))
number-injective (Y ∷ u) (Y ∷ v) e h = let same : power (length u) ≡ power (length v) = ap power (omega arith) in
    ap (λ w. Y ∷ w) (number-injective u v (omega arith) (omega arith))
