-- What one word adds: x before each word of a shuffle, with a sign.
use Rattle.std.proofs.Common.{◌≡◌, ◌≢◌, ℕ, ◌+◌, ◌*◌, ◌%◌, ◌<◌, ◌≤◌, false, List, [], ◌∷◌, ◌++◌, length, drop, map, refl, sym, ap, ◌∙◌, arith}
use Rattle.zeta_model.specs.declared.Letter.{Letter}
use Rattle.zeta_model.specs.declared.Letter.TheVariants.{X, Y}
use Rattle.zeta_model.specs.Modular.{Same}
use Rattle.zeta_model.specs.Alphabets.{shuffle_alphabet, shuffle_of}
use Rattle.zeta_model.specs.Sums.{single, sum_of, numbered, continued}
use Rattle.zeta_model.specs.Regularise.{begins_with_y, y_word, sign_of, reg_behind, reg_of}
use Rattle.zeta_model.proofs.ModularLemmas.{same-mul_right, same-mod}
use Rattle.zeta_model.proofs.Totals.{total-map}
use Rattle.zeta_model.proofs.ProductWords.{length-prod}
use Rattle.zeta_model.proofs.ShuffleLetters.{shuffle_laws}
use Rattle.zeta_model.proofs.RegularValues.{reg_of-y_word_behind, reg_of-begins_with_x}
use Rattle.zeta_model.proofs.RegularBehind.{reg_behind-nothing}
use Rattle.word_sums.specs.Terms.{coefficient_of}
use Rattle.regularise_core.proofs.KnownSums.{continued_known}

abbrev Word : Type 0
Word = List Letter

pub reg_of-no_y : (m : ℕ) (w t : Word) → begins_with_y w ≡ false → reg_of m w t ≡ single w t
reg_of-no_y m [] t e = refl
reg_of-no_y m (X ∷ w) t e = reg_of-begins_with_x m (X ∷ w) t refl
reg_of-no_y m (Y ∷ w) t e = cc

pub no_front : (m : ℕ) (word front rest t : Word) → word ≡ front ++ rest → begins_with_y rest ≡ false → length front ≡ 0 → reg_of m word t ≡ single word t
no_front m word [] rest t whole stops none = reg_of-no_y m word t (ap begins_with_y whole ∙ stops)
no_front m word (a ∷ front) rest t whole stops none = absurd (omega arith)

reg_of-front : (m : ℕ) (word front rest t : Word) → word ≡ front ++ rest → front ≡ y_word (length front) → reg_of m word t ≡ reg_behind m (length front) rest t
reg_of-front m word front rest t whole y = ap (λ w. reg_of m w t) (whole ∙ ap (λ v. v ++ rest) y) ∙ ap (λ s. s t) (reg_of-y_word_behind m (length front) rest)

pub only_front : (m : ℕ) (word front rest t : Word) → word ≡ front ++ rest → front ≡ y_word (length front) → length front ≢ 0 → length rest ≡ 0
    → reg_of m word t ≡ 0
only_front m word front [] t whole y some none = reg_of-front m word front [] t whole y ∙ reg_behind-nothing m (length front) t (omega arith)
only_front m word front (a ∷ rest) t whole y some none = absurd (omega arith)

begins_with_x : (rest : Word) → begins_with_y rest ≡ false → length rest ≢ 0 → rest ≡ X ∷ drop 1 rest
begins_with_x [] stops some = absurd (some refl)
begins_with_x (X ∷ rest) stops some = refl
begins_with_x (Y ∷ rest) stops some = cc

module _ {E : Type 0} (m : ℕ) (pos : 0 < m) (value : E → ℕ) (words : List (Word × E)) (front rest : Word)
    (counts : (t : Word) → coefficient_of value words t ≡ sum_of (shuffle_of front (drop 1 rest)) t % m) where
  -- k times x before each word of the shuffle is v times the regularisation, where k is v with the sign
  pub front_value : (word t : Word) (k v : ℕ) → word ≡ front ++ rest → front ≡ y_word (length front) → begins_with_y rest ≡ false → length rest ≢ 0
      → Same m k (v * sign_of m (length front))
      → Same m (k * continued (λ w. single (X ∷ w)) (numbered value words) t) (v * reg_of m word t)
  front_value word t k v whole y stops some sign =
      let ws : List Word = shuffle_of front (drop 1 rest) in
      let all : ℕ = continued (λ w. single (X ∷ w)) (numbered value words) t in
      let places : ℕ = sum_of (map (λ w. X ∷ w) ws) t in
      let group : v * sign_of m (length front) * places ≡ v * (sign_of m (length front) * places) = grind arith in
      let shuffle : sign_of m (length front) * places ≡ reg_behind m (length front) (X ∷ drop 1 rest) t =
      ap (λ u. sign_of m (length front) * sum_of (map (λ w. X ∷ w) (shuffle_of u (drop 1 rest))) t) y in
      let turn : k * all ≡ all * k = grind arith in
      let back : places * k ≡ k * places = grind arith in
      ap (λ n. n % m) turn
      ∙ same-mul_right m all places k
      (continued_known m value words ws pos (λ r. ap (λ n. n % m) (counts r) ∙ same-mod m (sum_of ws r)) (λ w. single (X ∷ w)) t
      ∙ ap (λ n. n % m) (sym (total-map (λ w. single w t) (λ w. X ∷ w) ws)))
      ∙ ap (λ n. n % m) back ∙ same-mul_right m k (v * sign_of m (length front)) places sign
      ∙ ap (λ n. n % m) (group ∙ ap (λ n. v * n) (shuffle ∙ ap (λ w. reg_behind m (length front) w t) (sym (begins_with_x rest stops some))
      ∙ sym (reg_of-front m word front rest t whole y)))

-- a word of the shuffle has the weights' sum, so there is room for x before it
pub shuffle_weight : (front rest t : Word) → length front + length rest ≤ 24 → length rest ≢ 0 → 0 < sum_of (shuffle_of front (drop 1 rest)) t → length t < 24
shuffle_weight front [] t fits some held = absurd (some refl)
shuffle_weight front (a ∷ rest) t fits some held =
    let w : length t ≡ length front + length rest = length-prod 24 shuffle_alphabet (shuffle_laws 24) front rest t refl refl (omega arith) held in
    omega arith
