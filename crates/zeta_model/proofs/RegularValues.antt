-- What the regularisation is of words of each kind.
use Rattle.std.proofs.Common.{◌≡◌, ℕ, zero, suc, ◌+◌, ◌*◌, true, List, [], ◌∷◌, ◌++◌, map, refl, sym, ap, ◌∙◌, arith}
use Rattle.std.specs.List.{flat_map}
use Rattle.zeta_model.specs.declared.Letter.{Letter}
use Rattle.zeta_model.specs.declared.Letter.TheVariants.{X, Y}
use Rattle.zeta_model.specs.Words.{begins_with_x}
use Rattle.zeta_model.specs.Alphabets.{shuffle_of}
use Rattle.zeta_model.specs.Sums.{single, sum_of}
use Rattle.zeta_model.specs.Regularise.{y_word, sign_of, reg_behind, reg_of, nested_words}

y_word-suc : (i j : ℕ) (m : ℕ) (w : List Letter) → reg_behind m i (y_word j ++ w) ≡ reg_behind m (i + j) w
y_word-suc i zero m w = let e : i ≡ i + 0 = omega arith in ap (λ n. reg_behind m n w) e
y_word-suc i (suc j) m w = let e : suc i + j ≡ i + suc j = omega arith in y_word-suc (suc i) j m w ∙ ap (λ n. reg_behind m n w) e

pub reg_of-y_word_behind : (m j : ℕ) (w : List Letter) → reg_of m (y_word j ++ w) ≡ reg_behind m j w
reg_of-y_word_behind m j w = let e : 0 + j ≡ j = omega arith in y_word-suc 0 j m w ∙ ap (λ n. reg_behind m n w) e

nested_words-zero : (ts : List (List Letter)) → flat_map (λ t. shuffle_of [] (X ∷ t)) ts ≡ map (λ t. X ∷ t) ts
nested_words-zero [] = refl
nested_words-zero (t ∷ ts) = ap (λ us. (X ∷ t) ∷ us) (nested_words-zero ts)

-- the regularisation of y^j x u is the last term of the identity
pub reg_of-y_word : (m j : ℕ) (u t : List Letter) → reg_of m (y_word j ++ X ∷ u) t ≡ sign_of m j * sum_of (nested_words 0 j u) t
reg_of-y_word m j u t = ap (λ s. s t) (reg_of-y_word_behind m j (X ∷ u))
    ∙ ap (λ ts. sign_of m j * sum_of ts t) (sym (nested_words-zero (shuffle_of (y_word j) u)))

pub reg_of-only_y : (m j : ℕ) (t : List Letter) → reg_of m (y_word (suc j)) t ≡ 0
reg_of-only_y m j t = ap (λ w. reg_of m w t) (plain (suc j)) ∙ ap (λ s. s t) (reg_of-y_word_behind m (suc j) [])
  where
    plain : (j : ℕ) → y_word j ≡ y_word j ++ []
    plain zero = refl
    plain (suc j) = ap (λ w. Y ∷ w) (plain j)

pub reg_of-begins_with_x : (m : ℕ) (w t : List Letter) → begins_with_x w ≡ true → reg_of m w t ≡ single w t
reg_of-begins_with_x m [] t e = cc
reg_of-begins_with_x m (X ∷ u) t e = omega arith
reg_of-begins_with_x m (Y ∷ u) t e = cc
