-- Words that have an index: those that end with y, admissible ones, and powers of y.
pub use Rattle.zeta_model.proofs.RegularisedWords.{length-y_word}
pub use Rattle.zeta_model.proofs.StuffleLetters.{length-z_word}
pub use Rattle.zeta_model.proofs.DualityLaws.{length-dual_of}
pub use Rattle.zeta_model.proofs.ProductWords.{single-other}
use Rattle.std.proofs.Common.{◌≡◌, ℕ, zero, suc, ◌<◌, true, List, [], ◌∷◌, length, refl, arith}
use Rattle.zeta_model.specs.declared.Letter.{Letter}
use Rattle.zeta_model.specs.declared.Letter.TheVariants.{X, Y}
use Rattle.zeta_model.specs.Words.{ends_with_y, has_index, is_admissible}
use Rattle.zeta_model.specs.Regularise.{y_word}

pub ends-has_index : (w : List Letter) → has_index w ≡ true → 0 < length w → ends_with_y w ≡ true
ends-has_index [] e h = absurd (omega arith)
ends-has_index (a ∷ w) e h = e

pub has_index-ends : (w : List Letter) → ends_with_y w ≡ true → has_index w ≡ true
has_index-ends [] e = refl
has_index-ends (a ∷ w) e = e

pub admissible-has_index : (w : List Letter) → is_admissible w ≡ true → has_index w ≡ true
admissible-has_index [] h = cc
admissible-has_index (X ∷ w) h = h
admissible-has_index (Y ∷ w) h = cc

pub admissible-ends : (w : List Letter) → is_admissible w ≡ true → ends_with_y w ≡ true
admissible-ends [] h = cc
admissible-ends (X ∷ w) h = h
admissible-ends (Y ∷ w) h = cc

pub has_index-y_word : (j : ℕ) → has_index (y_word j) ≡ true
has_index-y_word zero = refl
has_index-y_word (suc zero) = refl
has_index-y_word (suc (suc j)) = has_index-y_word (suc j)
