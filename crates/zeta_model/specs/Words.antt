-- Words over the letters x and y: their order, weight, depth, and which of them are admissible.
use Rattle.std.specs.Coded.{Coded, code_by, coded_ℕ, coded_list}
use Rattle.std.proofs.Common.{zero, suc, refl}
use Rattle.std.specs.Prelude.{◌≡◌, ℕ, Bool, true, false, ◌&&◌, List, [], ◌∷◌, count_by}
use Rattle.std.specs.declared.cmp.Ordering.{Ordering}
use Rattle.std.specs.Ordering.{nat_cmp, on}
use Rattle.std.specs.Cmp.Lexicographic.{slice_cmp}
use Rattle.zeta_model.specs.declared.Letter.{Letter}
use Rattle.zeta_model.specs.declared.Letter.TheVariants.{X, Y}

-- x is 0 and y is 1
abbrev pub letter_rank : Letter → ℕ
letter_rank X = 0
letter_rank Y = 1

abbrev pub letter_cmp : Letter → Letter → Ordering
letter_cmp = on letter_rank nat_cmp

-- x comes before y, and a proper prefix before the longer word
abbrev pub word_cmp : List Letter → List Letter → Ordering
word_cmp = slice_cmp letter_cmp

abbrev pub is_y : Letter → Bool
is_y X = false
is_y Y = true

-- how many letters y the word has; its weight is its length
abbrev pub depth_of : List Letter → ℕ
depth_of w = count_by is_y w

abbrev pub begins_with_x : List Letter → Bool
begins_with_x [] = false
begins_with_x (X ∷ w) = true
begins_with_x (Y ∷ w) = false

abbrev pub ends_with_y : List Letter → Bool
ends_with_y [] = false
ends_with_y (X ∷ []) = false
ends_with_y (Y ∷ []) = true
ends_with_y (a ∷ b ∷ w) = ends_with_y (b ∷ w)

-- it begins with x and ends with y, so that its sum converges
abbrev pub is_admissible : List Letter → Bool
is_admissible w = begins_with_x w && ends_with_y w

-- empty, or ends with y: the word has an index
abbrev pub has_index : List Letter → Bool
has_index [] = true
has_index (a ∷ w) = ends_with_y (a ∷ w)

abbrev pub letter_at_rank : ℕ → Letter
letter_at_rank zero = X
letter_at_rank (suc n) = Y

pub letter_at_rank-rank : (a : Letter) → letter_at_rank (letter_rank a) ≡ a
letter_at_rank-rank X = refl
letter_at_rank-rank Y = refl

-- a letter is stored as its rank, and a word as the list of these
abbrev pub letter_code : Coded Letter
letter_code = code_by ℕ coded_ℕ letter_rank letter_at_rank letter_at_rank-rank

abbrev pub word_code : Coded (List Letter)
word_code = coded_list letter_code
