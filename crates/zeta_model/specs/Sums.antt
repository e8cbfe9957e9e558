-- Sums of words: functions from words to numbers, which are read modulo m.
use Rattle.std.specs.Prelude.{ℕ, ◌+◌, ◌-◌, ◌*◌, Bool, cond, List, [], ◌∷◌, map}
use Rattle.std.specs.Ordering.{eq_by_cmp}
use Rattle.zeta_model.specs.declared.Letter.{Letter}
use Rattle.zeta_model.specs.Modular.{Same}
use Rattle.zeta_model.specs.Words.{word_cmp}
use Rattle.zeta_model.specs.Product.{total}

-- each word has its coefficient
abbrev pub Sum : Type 0
Sum = List Letter → ℕ

-- the two words are one
abbrev pub same_word : List Letter → List Letter → Bool
same_word = eq_by_cmp word_cmp

-- the sum without words
abbrev pub zero_sum : Sum
zero_sum t = 0

-- the sum of the one word w
abbrev pub single : List Letter → Sum
single w t = cond (same_word t w) 1 0

-- the sum of a list of words: each word has the number of its places
abbrev pub sum_of : List (List Letter) → Sum
sum_of ws t = total (λ w. single w t) ws

-- c times the sum
abbrev pub scaled : ℕ → Sum → Sum
scaled c s t = c * s t

-- s less r, since m - 1 is -1 modulo m
abbrev pub difference : ℕ → Sum → Sum → Sum
difference m s r t = s t + (m - 1) * r t

-- the sums have the same coefficients modulo m
abbrev pub SameSum : ℕ → Sum → Sum → Type 0
SameSum m s r = (t : List Letter) → Same m (s t) (r t)

-- a map of words continued linearly to a sum that is given by its terms, numbers with words
abbrev pub continued : (List Letter → Sum) → List (ℕ × List Letter) → Sum
continued f [] t = 0
continued f (term ∷ terms) t = term.0 * f term.1 t + continued f terms t

module _ {E : Type 0} where
  -- each word with the number that its element stands for
  abbrev pub numbered : (E → ℕ) → List (List Letter × E) → List (ℕ × List Letter)
  numbered value terms = map (λ term. (value term.1, term.0)) terms

  -- the sum of f over the words of the terms, each times its number
  abbrev pub weighted : (E → ℕ) → (List Letter → ℕ) → List (List Letter × E) → ℕ
  weighted value f [] = 0
  weighted value f (term ∷ terms) = value term.1 * f term.0 + weighted value f terms
