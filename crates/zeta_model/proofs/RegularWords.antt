-- The regularisation of a word that ends with y is a sum of admissible words of its weight.
use Rattle.std.proofs.Common.{◌≡◌, ℕ, zero, suc, ◌+◌, ◌*◌, ◌<◌, Bool, true, false, List, [], ◌∷◌, length, map, refl, sym, ap, ◌∙◌, arith}
use Rattle.zeta_model.specs.declared.Letter.{Letter}
use Rattle.zeta_model.specs.declared.Letter.TheVariants.{X, Y}
use Rattle.zeta_model.specs.Words.{ends_with_y, is_admissible}
use Rattle.zeta_model.specs.Product.{total}
use Rattle.zeta_model.specs.Alphabets.{shuffle_alphabet, shuffle_of}
use Rattle.zeta_model.specs.Sums.{single, sum_of}
use Rattle.zeta_model.specs.Regularise.{y_word, sign_of, reg_behind, reg_of}
use Rattle.zeta_model.proofs.Totals.{total-append, total-map, total-zero}
use Rattle.zeta_model.proofs.LetterSteps.{shuffle_of-letters}
use Rattle.zeta_model.proofs.ShuffleLetters.{shuffle_laws}
use Rattle.zeta_model.proofs.ProductWords.{single-other, length-prod}
use Rattle.zeta_model.proofs.RegularisedWords.{length-y_word}
use mathlib.Core.Bool.{true≢false}

abbrev Word : Type 0
Word = List Letter

total-shuffle_of : (f : Word → ℕ) (a b : Letter) (u v : Word)
    → total f (shuffle_of (a ∷ u) (b ∷ v)) ≡ total (λ w. f (a ∷ w)) (shuffle_of u (b ∷ v)) + total (λ w. f (b ∷ w)) (shuffle_of (a ∷ u) v)
total-shuffle_of f a b u v =
    ap (total f) (shuffle_of-letters a b u v)
    ∙ total-append f (map (λ w. a ∷ w) (shuffle_of u (b ∷ v))) (map (λ w. b ∷ w) (shuffle_of (a ∷ u) v))
    ∙ (λ i. total-map f (λ w. a ∷ w) (shuffle_of u (b ∷ v)) i + total-map f (λ w. b ∷ w) (shuffle_of (a ∷ u) v) i)

ends_with_y-y_word : (j : ℕ) → ends_with_y (Y ∷ y_word j) ≡ true
ends_with_y-y_word zero = refl
ends_with_y-y_word (suc j) = ends_with_y-y_word j

-- f and g are equal on the words that end with y
abbrev EndsAlike : (Word → ℕ) → (Word → ℕ) → Type 0
EndsAlike f g = (w : Word) → ends_with_y w ≡ true → f w ≡ g w

EndsAlike-behind : (f g : Word → ℕ) (a : Letter) → EndsAlike f g → EndsAlike (λ w. f (a ∷ w)) (λ w. g (a ∷ w))
EndsAlike-behind f g a e [] c = cc
EndsAlike-behind f g a e (b ∷ w) c = e (a ∷ b ∷ w) c

ends_cong : (n j : ℕ) (u : Word) (f g : Word → ℕ) → j + length u ≡ n → ends_with_y u ≡ true → EndsAlike f g
    → total f (shuffle_of (y_word j) u) ≡ total g (shuffle_of (y_word j) u)
ends_cong n zero u f g l c e = omega (arith, e u c)
ends_cong n (suc j) [] f g l c e = cc
ends_cong zero (suc j) (a ∷ u) f g l c e = absurd (omega arith)
ends_cong (suc n) (suc j) (X ∷ []) f g l c e = cc
ends_cong (suc n) (suc j) (Y ∷ []) f g l c e =
    let one = ends_cong n j (Y ∷ []) (λ w. f (Y ∷ w)) (λ w. g (Y ∷ w)) (omega arith) refl (EndsAlike-behind f g Y e) in
    let last = e (Y ∷ y_word (suc j)) (ends_with_y-y_word (suc j)) in
    omega (arith, total-shuffle_of f Y Y (y_word j) [], total-shuffle_of g Y Y (y_word j) [])
ends_cong (suc n) (suc j) (a ∷ b ∷ u) f g l c e =
    let one = ends_cong n j (a ∷ b ∷ u) (λ w. f (Y ∷ w)) (λ w. g (Y ∷ w)) (omega arith) c (EndsAlike-behind f g Y e) in
    let two = ends_cong n (suc j) (b ∷ u) (λ w. f (a ∷ w)) (λ w. g (a ∷ w)) (omega arith) c (EndsAlike-behind f g a e) in
    omega (arith, total-shuffle_of f Y a (y_word j) (b ∷ u), total-shuffle_of g Y a (y_word j) (b ∷ u))

ends_at : (j : ℕ) (u t : Word) (b : Bool) → ends_with_y t ≡ b → ends_with_y u ≡ true → 0 < sum_of (shuffle_of (y_word j) u) t → ends_with_y t ≡ true
ends_at j u t true is c p = is
ends_at j u t false is c p =
    let none : sum_of (shuffle_of (y_word j) u) t ≡ 0 =
    ends_cong (j + length u) j u (λ w. single w t) (λ w. 0) refl c
    (λ w d. single-other w t (λ same. true≢false (sym d ∙ ap ends_with_y (sym same) ∙ is))) ∙ total-zero (shuffle_of (y_word j) u) in
    absurd (omega arith)

-- a word of x sh(y^j, u)
record IsRegularWord (j : ℕ) (u t : Word) : Type 0 where
  admissible : is_admissible t ≡ true
  weight : length t ≡ j + (1 + length u)

sum_of-behind_x : (ts : List Word) (t : Word) → sum_of (map (λ r. X ∷ r) ts) (X ∷ t) ≡ sum_of ts t
sum_of-behind_x [] t = refl
sum_of-behind_x (r ∷ ts) t = omega (arith, sum_of-behind_x ts t)

none_without_x : (ts : List Word) → (sum_of (map (λ r. X ∷ r) ts) [] ≡ 0) × ((t : Word) → sum_of (map (λ r. X ∷ r) ts) (Y ∷ t) ≡ 0)
none_without_x [] = (refl, λ t. refl)
none_without_x (r ∷ ts) = let n = none_without_x ts in (omega (arith, n.0), λ t. omega (arith, n.1 t))

regular_word : (j : ℕ) (u t : Word) → ends_with_y (X ∷ u) ≡ true → 0 < sum_of (map (λ r. X ∷ r) (shuffle_of (y_word j) u)) t → IsRegularWord j u t
regular_word j u [] c p = absurd (omega (arith, (none_without_x (shuffle_of (y_word j) u)).0))
regular_word j u (Y ∷ t) c p = absurd (omega (arith, (none_without_x (shuffle_of (y_word j) u)).1 t))
regular_word j [] (X ∷ t) c p = cc
regular_word j (a ∷ u) (X ∷ t) c p =
    let q : 0 < sum_of (shuffle_of (y_word j) (a ∷ u)) t = omega (arith, sum_of-behind_x (shuffle_of (y_word j) (a ∷ u)) t) in
    let n : length t ≡ length (y_word j) + length (a ∷ u) =
    length-prod (length (y_word j) + length (a ∷ u)) shuffle_alphabet (shuffle_laws _) (y_word j) (a ∷ u) t refl refl (omega arith) q in
    record { admissible = whole t (ends_at j (a ∷ u) t (ends_with_y t) refl c q); weight = omega (arith, length-y_word j) }
  where
    whole : (t : Word) → ends_with_y t ≡ true → is_admissible (X ∷ t) ≡ true
    whole [] e = cc
    whole (b ∷ t) e = e

factor : (s n : ℕ) → 0 < s * n → 0 < n
factor s zero p = absurd (omega arith)
factor s (suc n) p = omega arith

reg_behind-words : (m j : ℕ) (w t : Word) → ends_with_y w ≡ true → 0 < reg_behind m j w t → (is_admissible t ≡ true) × (length t ≡ j + length w)
reg_behind-words m j [] t c p = cc
reg_behind-words m j (X ∷ u) t c p =
    let r = regular_word j u t c (factor (sign_of m j) (sum_of (map (λ r. X ∷ r) (shuffle_of (y_word j) u)) t) p) in
    let weight = r.weight in
    (r.admissible, omega arith)
reg_behind-words m j (Y ∷ []) t c p = absurd (omega arith)
reg_behind-words m j (Y ∷ a ∷ w) t c p = let r = reg_behind-words m (suc j) (a ∷ w) t c p in (r.0, omega (arith, r.1))

pub reg_of-words : (m : ℕ) (w t : Word) → ends_with_y w ≡ true → 0 < reg_of m w t → (is_admissible t ≡ true) × (length t ≡ length w)
reg_of-words m w t c p = let r = reg_behind-words m 0 w t c p in (r.0, omega (arith, r.1))
