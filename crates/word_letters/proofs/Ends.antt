-- The last letter of a word.
use Rattle.std.proofs.Common.{◌≡◌, ℕ, zero, suc, List, [], ◌∷◌, length, slice_get, Some, refl, arith}
use Rattle.zeta_model.specs.declared.Letter.{Letter}
use Rattle.zeta_model.specs.declared.Letter.TheVariants.{X, Y}
use Rattle.zeta_model.specs.Words.{ends_with_y, is_y}

pub ends_with_y-last : (i : ℕ) (w : List Letter) (a : Letter) → suc i ≡ length w → slice_get w i ≡ Some a → is_y a ≡ ends_with_y w
ends_with_y-last i [] a h e = cc
ends_with_y-last zero (X ∷ []) X h e = refl
ends_with_y-last zero (X ∷ []) Y h e = cc
ends_with_y-last zero (Y ∷ []) X h e = cc
ends_with_y-last zero (Y ∷ []) Y h e = refl
ends_with_y-last (suc i) (b ∷ []) a h e = absurd (omega arith)
ends_with_y-last zero (b ∷ c ∷ w) a h e = absurd (omega arith)
ends_with_y-last (suc i) (X ∷ c ∷ w) a h e = ends_with_y-last i (c ∷ w) a (omega arith) e
ends_with_y-last (suc i) (Y ∷ c ∷ w) a h e = ends_with_y-last i (c ∷ w) a (omega arith) e
