-- The product of the factorials of the multiplicities: what one word more gives.
use Rattle.std.proofs.Common.{◌≡◌, ℕ, zero, suc, ◌+◌, ◌-◌, ◌*◌, ◌<◌, ◌≤◌, ◌⊎◌, inl, inr, Bool, true, false, cond, List, [], ◌∷◌, ◌++◌, length, replicate, sym, ap, subst, ◌∙◌, arith}
use Rattle.std.proofs.Math.Nat.{mul-le-mul, one-le-mul}
use Rattle.zeta_model.specs.declared.Letter.{Letter}
use Rattle.zeta_model.specs.Sums.{same_word, single, sum_of}
use Rattle.zeta_model.proofs.SumLemmas.{sum_of-push}
use Rattle.zeta_model.proofs.ProductWords.{single-other}
use Rattle.lyndon_words.proofs.WordLess.{precedes_cases}
use Rattle.leading_word.specs.Shuffles.{factorials_of, factorial}
use Rattle.leading_word.proofs.AtMosts.{not_both, at_most-refl, AtMost}
use Rattle.leading_word.proofs.Ways.{single-itself}

abbrev Word : Type 0
Word = List Letter

pub same_or_other : (u v : Word) → (u ≡ v) ⊎ (u ≡ v → ⊥)
same_or_other u v = elim (precedes_cases u v) [
  | inl p ↦ inr (λ e. not_both u v p (subst (λ t. AtMost t u) e (at_most-refl u)))
  | inr q ↦ elim q [ inl e ↦ inl e | inr p ↦ inr (λ e. not_both v u p (subst (AtMost u) e (at_most-refl u))) ]
]

-- a word at the end gives the number of its places
pub factorials_of-push : (us : List Word) (u : Word) → factorials_of (us ++ u ∷ []) ≡ factorials_of us * (sum_of us u + 1)
factorials_of-push [] u = omega (arith, single-itself u)
factorials_of-push (a ∷ us) u = go (factorials_of-push us u) (same_or_other a u)
  where
    at_a : sum_of (us ++ u ∷ []) a ≡ sum_of us a + single u a
    at_a = sum_of-push us u a

    go : factorials_of (us ++ u ∷ []) ≡ factorials_of us * (sum_of us u + 1) → (a ≡ u) ⊎ (a ≡ u → ⊥)
        → (single a a + sum_of (us ++ u ∷ []) a) * factorials_of (us ++ u ∷ [])
        ≡ (single a a + sum_of us a) * factorials_of us * (single a u + sum_of us u + 1)
    go more (inl e) =
        let one : single u a ≡ 1 = ap (λ t. single t a) (sym e) ∙ single-itself a in
        let other : single a u ≡ 1 = ap (single a) (sym e) ∙ single-itself a in
        let same : sum_of us u ≡ sum_of us a = ap (sum_of us) (sym e) in
        let n : ℕ = sum_of us a in
        let f : ℕ = factorials_of us in
        (λ i. (single-itself a i + (at_a ∙ ap (λ k. n + k) one) i) * (more ∙ ap (λ k. f * (k + 1)) same) i)
        ∙ omega arith
        ∙ (λ i. (sym (single-itself a) i + n) * f * (sym other i + sym same i + 1))
    go more (inr ne) =
        let one : single u a ≡ 0 = single-other u a ne in
        let other : single a u ≡ 0 = single-other a u (λ e. ne (sym e)) in
        let n : ℕ = sum_of us a in
        let f : ℕ = factorials_of us in
        (λ i. (single a a + (at_a ∙ ap (λ k. n + k) one) i) * more i)
        ∙ omega arith
        ∙ (λ i. (single a a + n) * f * (sym other i + sum_of us u + 1))

single-within : (u t : Word) → single u t ≤ 1
single-within u t = by (same_word t u)
  where
    by : (b : Bool) → ◌≤◌ (cond b 1 0) 1
    by true = omega arith
    by false = omega arith

pub sum_of-within : (us : List Word) (t : Word) → sum_of us t ≤ length us
sum_of-within [] t = omega arith
sum_of-within (u ∷ us) t = omega (arith, single-within u t, sum_of-within us t)

pub factorials_of-some : (us : List Word) → 0 < factorials_of us
factorials_of-some [] = omega arith
factorials_of-some (u ∷ us) = one-le-mul (let some : 1 ≤ sum_of (u ∷ us) u = omega (arith, single-itself u) in some) (factorials_of-some us)

factorials_of-within : (us : List Word) → factorials_of us ≤ factorial (length us)
factorials_of-within [] = omega arith
factorials_of-within (u ∷ us) = mul-le-mul (sum_of-within (u ∷ us) u) (factorials_of-within us)

factorial-more : (k n : ℕ) → factorial n ≤ factorial (n + k)
factorial-more zero n = subst (λ t. factorial n ≤ factorial t) (let e : n ≡ n + 0 = omega arith in e) (omega arith)
factorial-more (suc k) n =
    let more : factorial (n + k) ≤ suc (n + k) * factorial (n + k) = omega arith in
    subst (λ t. factorial n ≤ factorial t) (let e : suc (n + k) ≡ n + suc k = omega arith in e) (omega (arith, factorial-more k n, more))

-- twelve words or fewer
pub factorials_of-fits : (us : List Word) → length us ≤ 12 → factorials_of us ≤ 479001600
factorials_of-fits us h =
    let e : length us + (12 - length us) ≡ 12 = omega arith in
    omega (arith, factorials_of-within us, subst (λ t. factorial (length us) ≤ factorial t) e (factorial-more (12 - length us) (length us)))

-- words that are all u, before others of which none is u
pub factorials_of-replicate : (n : ℕ) (u : Word) (us : List Word) → sum_of us u ≡ 0 → factorials_of (replicate n u ++ us) ≡ factorial n * factorials_of us
factorials_of-replicate zero u us none = omega arith
factorials_of-replicate (suc n) u us none =
    (λ i. (single-itself u i + places-replicate n i) * factorials_of-replicate n u us none i) ∙ omega arith
  where
    places-replicate : (n : ℕ) → sum_of (replicate n u ++ us) u ≡ n
    places-replicate zero = none
    places-replicate (suc n) = omega (arith, single-itself u, places-replicate n)
