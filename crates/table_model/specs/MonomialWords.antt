-- Monomials, and rows over a list of columns, as sums of words.
use Rattle.std.specs.Prelude.{ℕ, ◌*◌, List, [], length, get_or}
use Rattle.zeta_model.specs.declared.Letter.{Letter}
use Rattle.zeta_model.specs.Sums.{Sum, sum_of}
use Rattle.linear_model.specs.Rows.{total}
use Rattle.leading_word.specs.Shuffles.{words_of}

-- words(p): the sum of the shuffle of the factors
unfoldable pub words_of_monomial : List (List Letter) → Sum
words_of_monomial p = sum_of (words_of p)

-- the monomial of a column
abbrev pub column_at : List (List (List Letter)) → ℕ → List (List Letter)
column_at columns col = get_or columns col []

-- the sum of the n sums, each times its coefficient
abbrev pub sum_combination : ℕ → (ℕ → Sum) → (ℕ → ℕ) → Sum
sum_combination n sums c t = total n (λ i. c i * sums i t)

-- words(row): the sum over the columns of the residue times the words of the column's monomial
abbrev pub words_of_row : List (List (List Letter)) → (ℕ → ℕ) → Sum
words_of_row columns row = sum_combination (length columns) (λ col. words_of_monomial (column_at columns col)) row
