-- Duality: a word read backwards, with x and y exchanged.
use Rattle.std.specs.Prelude.{List, reverse, map}
use Rattle.std.specs.declared.cmp.Ordering.{Ordering}
use Rattle.std.specs.declared.cmp.Ordering.TheVariants.{Less, Equal, Greater}
use Rattle.zeta_model.specs.declared.Letter.{Letter}
use Rattle.zeta_model.specs.declared.Letter.TheVariants.{X, Y}
use Rattle.zeta_model.specs.Words.{word_cmp}

abbrev pub other_letter : Letter → Letter
other_letter X = Y
other_letter Y = X

abbrev pub dual_of : List Letter → List Letter
dual_of w = reverse (map other_letter w)

-- the first of two words, or the second where it is less
abbrev pub lesser_by : Ordering → List Letter → List Letter → List Letter
lesser_by Less u v = u
lesser_by Equal u v = u
lesser_by Greater u v = v

-- the lesser of a word and its dual
abbrev pub representative_of : List Letter → List Letter
representative_of w = lesser_by (word_cmp w (dual_of w)) w (dual_of w)
