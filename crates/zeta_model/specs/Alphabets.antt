-- The letters of shuffle and of stuffle, and the two products (Ihara, Kaneko and Zagier 2006; Hoffman 2000 for the general form).
use Rattle.std.specs.Prelude.{◌+◌, true, Some, None, List, [], ◌∷◌, length, take}
use Rattle.zeta_model.specs.declared.Letter.{Letter}
use Rattle.zeta_model.specs.declared.Letter.TheVariants.{X, Y}
use Rattle.zeta_model.specs.Words.{has_index}
use Rattle.zeta_model.specs.Indices.{z_word}
use Rattle.zeta_model.specs.Product.{Alphabet, prod}

-- every word is covered, its letters are x and y, and no two letters join
abbrev pub shuffle_alphabet : Alphabet
shuffle_alphabet = record { covered = λ w. true; first = λ w. take 1 w; joined = λ a b. None }

-- the front of a word up to its first y
abbrev pub first_z : List Letter → List Letter
first_z [] = []
first_z (X ∷ w) = X ∷ first_z w
first_z (Y ∷ w) = Y ∷ []

-- words that are empty or end with y are covered, their letters are the z_k, and z_k and z_l join to z_(k+l)
abbrev pub stuffle_alphabet : Alphabet
stuffle_alphabet = record { covered = has_index; first = first_z; joined = λ a b. Some (z_word (length a + length b)) }

-- the words of the shuffle of u and v, with their repeats
abbrev pub shuffle_of : List Letter → List Letter → List (List Letter)
shuffle_of u v = prod shuffle_alphabet u v

-- the words of the stuffle of u and v, with their repeats
abbrev pub stuffle_of : List Letter → List Letter → List (List Letter)
stuffle_of u v = prod stuffle_alphabet u v
