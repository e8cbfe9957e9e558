-- The regularisation of a word by the letters y that it begins with.
use Rattle.std.proofs.Common.{◌≡◌, ℕ, zero, suc, ◌+◌, ◌*◌, ◌<◌, false, List, [], ◌∷◌, ◌++◌, length, map, take, drop, refl, sym, ap, ◌∙◌, arith}
use Rattle.std.proofs.lemmas.List.{take-append-drop, drop_all}
use Rattle.zeta_model.specs.declared.Letter.{Letter}
use Rattle.zeta_model.specs.declared.Letter.TheVariants.{X, Y}
use Rattle.zeta_model.specs.Alphabets.{shuffle_of}
use Rattle.zeta_model.specs.Sums.{sum_of}
use Rattle.zeta_model.specs.Regularise.{begins_with_y, y_word, sign_of, reg_behind, reg_of}
use Rattle.zeta_model.proofs.RegularValues.{reg_of-y_word_behind}

pub reg_behind-nothing : (m j : ℕ) (t : List Letter) → 0 < j → reg_behind m j [] t ≡ 0
reg_behind-nothing m zero t h = absurd (omega arith)
reg_behind-nothing m (suc j) t h = refl

pub reg_behind-empty : (m : ℕ) (t : List Letter) → 0 < length t → reg_behind m 0 [] t ≡ 0
reg_behind-empty m [] h = absurd (omega arith)
reg_behind-empty m (a ∷ t) h = refl

pub reg_of-front : (m j : ℕ) (w t : List Letter) → take j w ≡ y_word j → reg_of m w t ≡ reg_behind m j (drop j w) t
reg_of-front m j w t front = ap (λ v. reg_of m v t) (sym (take-append-drop j w) ∙ ap (λ v. v ++ drop j w) front)
    ∙ ap (λ s. s t) (reg_of-y_word_behind m j (drop j w))

pub reg_of-all_y : (m j : ℕ) (w t : List Letter) → take j w ≡ y_word j → j ≡ length w → reg_of m w t ≡ reg_behind m j [] t
reg_of-all_y m j w t front all = reg_of-front m j w t front ∙ ap (λ v. reg_behind m j v t) (drop_all j w (omega arith))

drop-first : (j : ℕ) (w : List Letter) → begins_with_y (drop j w) ≡ false → j < length w → drop j w ≡ X ∷ drop (j + 1) w
drop-first j [] e l = absurd (omega arith)
drop-first zero (X ∷ w) e l = refl
drop-first zero (Y ∷ w) e l = cc
drop-first (suc j) (a ∷ w) e l = let n : suc (j + 1) ≡ suc j + 1 = omega arith in drop-first j w e (omega arith) ∙ ap (λ k. X ∷ drop k (a ∷ w)) n

-- the sign times the places in x sh(y^j, u), for a word that is y^j x u
pub reg_of-places : (m j s n : ℕ) (w t u v : List Letter) (words : List (List Letter)) → take j w ≡ y_word j → begins_with_y (drop j w) ≡ false
    → j < length w → s ≡ sign_of m j → n ≡ sum_of words t → words ≡ map (λ r. X ∷ r) (shuffle_of u v) → u ≡ take j w → v ≡ drop (j + 1) w
    → s * n ≡ reg_of m w t
reg_of-places m j s n w t u v words front stops inside sign places is left right =
    let all : words ≡ map (λ r. X ∷ r) (shuffle_of (y_word j) (drop (j + 1) w)) = is ∙ (λ i. map (λ r. X ∷ r) (shuffle_of ((left ∙ front) i) (right i))) in
    let many : n ≡ sum_of (map (λ r. X ∷ r) (shuffle_of (y_word j) (drop (j + 1) w))) t = places ∙ ap (λ ws. sum_of ws t) all in
    (λ i. sign i * many i) ∙ ap (λ x. reg_behind m j x t) (sym (drop-first j w stops inside)) ∙ sym (reg_of-front m j w t front)
