-- The first letter of a word for the stuffle.
use Rattle.std.proofs.Common.{◌≡◌, Some, List, [], ◌∷◌, refl}
use Rattle.std.specs.Prelude.{slice_get}
use Rattle.zeta_model.specs.declared.Letter.{Letter}
use Rattle.zeta_model.specs.declared.Letter.TheVariants.{X, Y}
use Rattle.zeta_model.specs.Alphabets.{first_z}

pub first_z-y : (w : List Letter) → slice_get w 0 ≡ Some Y → first_z w ≡ Y ∷ []
first_z-y [] e = cc
first_z-y (X ∷ w) e = cc
first_z-y (Y ∷ w) e = refl
