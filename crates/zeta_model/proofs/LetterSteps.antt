-- Shuffle and stuffle by the first letters of their words.
use Rattle.std.proofs.Common.{◌≡◌, ℕ, ◌+◌, ◌<◌, true, List, [], ◌∷◌, ◌++◌, length, map, refl, ap, ◌∙◌, arith}
use Rattle.std.proofs.lemmas.List.{append-nil}
use Rattle.zeta_model.specs.declared.Letter.{Letter}
use Rattle.zeta_model.specs.Words.{has_index}
use Rattle.zeta_model.specs.Indices.{z_word}
use Rattle.zeta_model.specs.Product.{Alphabet, IsLetter, prod}
use Rattle.zeta_model.specs.Alphabets.{shuffle_alphabet, stuffle_alphabet, shuffle_of, stuffle_of}
use Rattle.zeta_model.proofs.ProductTotals.{prod-letters}
use Rattle.zeta_model.proofs.ShuffleLetters.{shuffle_laws}
use Rattle.zeta_model.proofs.StuffleLetters.{stuffle_laws, length-z_word, z_is_letter}

pub prod-empty_second : (L : Alphabet) (u : List Letter) → prod L u [] ≡ u ∷ []
prod-empty_second L [] = refl
prod-empty_second L (a ∷ u) = refl

-- a word that is one letter x or y
one_letter : (a : Letter) → IsLetter shuffle_alphabet (a ∷ [])
one_letter a = record { covers = refl; some = omega arith; alone = refl }

pub shuffle_of-letters : (a b : Letter) (u v : List Letter)
    → shuffle_of (a ∷ u) (b ∷ v) ≡ map (λ w. a ∷ w) (shuffle_of u (b ∷ v)) ++ map (λ w. b ∷ w) (shuffle_of (a ∷ u) v)
shuffle_of-letters a b u v =
    let limit : ℕ = 1 + length u + (1 + length v) in
    prod-letters limit shuffle_alphabet (shuffle_laws limit) (a ∷ []) u (b ∷ []) v
    (record { letter_a = one_letter a; letter_b = one_letter b; covers_u = refl; covers_v = refl; fits = omega arith })
    ∙ append-nil (map (λ w. a ∷ w) (shuffle_of u (b ∷ v)) ++ map (λ w. b ∷ w) (shuffle_of (a ∷ u) v))

pub stuffle_of-letters : (k l : ℕ) (u v : List Letter) → 0 < k → 0 < l → has_index u ≡ true → has_index v ≡ true
    → stuffle_of (z_word k ++ u) (z_word l ++ v)
    ≡ map (λ w. z_word k ++ w) (stuffle_of u (z_word l ++ v)) ++ map (λ w. z_word l ++ w) (stuffle_of (z_word k ++ u) v) ++ map (λ w. z_word (k + l) ++ w)
    (stuffle_of u v)
stuffle_of-letters k l u v pk pl cu cv =
    let limit : ℕ = length (z_word k) + length u + (length (z_word l) + length v) in
    let weight : length (z_word k) + length (z_word l) ≡ k + l = omega (arith, length-z_word k, length-z_word l) in
    prod-letters limit stuffle_alphabet (stuffle_laws limit) (z_word k) u (z_word l) v
    (record { letter_a = z_is_letter k pk; letter_b = z_is_letter l pl; covers_u = cu; covers_v = cv; fits = omega arith })
    ∙ ap (λ n. map (λ w. z_word k ++ w) (stuffle_of u (z_word l ++ v)) ++ map (λ w. z_word l ++ w) (stuffle_of (z_word k ++ u) v) ++ map
    (λ w. z_word n ++ w) (stuffle_of u v)) weight
