-- The depth of words that are put together, and of the words z_k, y^j and dual w.
use Rattle.std.proofs.Common.{◌≡◌, ℕ, zero, suc, ◌+◌, ◌<◌, Bool, true, false, cond, ◌&&◌, List, [], ◌∷◌, ◌++◌, length, map, refl, ap, ◌∙◌, arith}
use Rattle.std.proofs.lemmas.List.{reverse-append}
use Rattle.std.proofs.lemmas.List.Sums.{sum_by-cons, sum_by-append}
use Rattle.zeta_model.specs.declared.Letter.{Letter}
use Rattle.zeta_model.specs.declared.Letter.TheVariants.{X, Y}
use Rattle.zeta_model.specs.Words.{depth_of, is_y, begins_with_x, ends_with_y, is_admissible}
use Rattle.zeta_model.specs.Duality.{other_letter, dual_of}
use Rattle.zeta_model.specs.Indices.{z_word}
use Rattle.zeta_model.specs.Regularise.{y_word}

pub depth_of-append : (u v : List Letter) → depth_of (u ++ v) ≡ depth_of u + depth_of v
depth_of-append u v = sum_by-append (λ a. cond (is_y a) 1 0) u v

pub depth_of-cons : (a : Letter) (w : List Letter) → depth_of (a ∷ w) ≡ depth_of (a ∷ []) + depth_of w
depth_of-cons a w = depth_of-append (a ∷ []) w

pub depth_of-x : (w : List Letter) → depth_of (X ∷ w) ≡ depth_of w
depth_of-x w = omega (arith, sum_by-cons (λ a. cond (is_y a) 1 0) X w)

pub depth_of-y : (w : List Letter) → depth_of (Y ∷ w) ≡ 1 + depth_of w
depth_of-y w = sum_by-cons (λ a. cond (is_y a) 1 0) Y w

pub depth_of-some : (w : List Letter) → ends_with_y w ≡ true → 0 < depth_of w
depth_of-some [] h = cc
depth_of-some (X ∷ []) h = cc
depth_of-some (Y ∷ w) h = omega (arith, depth_of-y w)
depth_of-some (X ∷ b ∷ w) h = omega (arith, depth_of-x (b ∷ w), depth_of-some (b ∷ w) h)

-- admissible words have a letter y
pub admissible-deep : (w : List Letter) → is_admissible w ≡ true → 0 < depth_of w
admissible-deep w h = depth_of-some w (second (begins_with_x w) (ends_with_y w) h)
  where
    second : (a b : Bool) → (a && b) ≡ true → b ≡ true
    second true b h = h
    second false b h = cc

pub depth_of-z_word : (k : ℕ) → 0 < k → depth_of (z_word k) ≡ 1
depth_of-z_word zero h = absurd (omega arith)
depth_of-z_word (suc zero) h = omega (arith, depth_of-y [])
depth_of-z_word (suc (suc k)) h = omega (arith, depth_of-x (z_word (suc k)), depth_of-z_word (suc k) (omega arith))

pub depth_of-y_word : (j : ℕ) → depth_of (y_word j) ≡ j
depth_of-y_word zero = refl
depth_of-y_word (suc j) = omega (arith, depth_of-y (y_word j), depth_of-y_word j)

dual_of-cons : (a : Letter) (w : List Letter) → dual_of (a ∷ w) ≡ dual_of w ++ other_letter a ∷ []
dual_of-cons a w = reverse-append (other_letter a ∷ []) (map other_letter w)

depth_of-dual_of-cons : (a : Letter) (w : List Letter) → depth_of (dual_of (a ∷ w)) ≡ depth_of (dual_of w) + depth_of (other_letter a ∷ [])
depth_of-dual_of-cons a w = ap depth_of (dual_of-cons a w) ∙ depth_of-append (dual_of w) (other_letter a ∷ [])

-- each letter is y in the word or in its dual
one_y : (a : Letter) → depth_of (other_letter a ∷ []) + depth_of (a ∷ []) ≡ 1
one_y X = refl
one_y Y = refl

pub depth_of-dual_of : (w : List Letter) → depth_of (dual_of w) + depth_of w ≡ length w
depth_of-dual_of [] = refl
depth_of-dual_of (a ∷ w) = omega (arith, depth_of-dual_of w, depth_of-cons a w, depth_of-dual_of-cons a w, one_y a)
