-- Truncated sums: H(n, k1 .. kr) is the sum over all lists n >= n1 > .. > nr >= 1 of the product of the 1 / ni ^ ki.
-- What stands for 1 / n is a function of n; where it gives inverses modulo m, the sums are read modulo m.
use Rattle.std.specs.Prelude.{ℕ, ◌*◌, ◌^◌, List, [], ◌∷◌, length}
use Rattle.std.specs.List.{sum_by}
use Rattle.truncated_sums.specs.Totals.{terms_total}
use Rattle.zeta_model.specs.declared.Letter.{Letter}
use Rattle.zeta_model.specs.Indices.{index_of}
use Rattle.truncated_sums.specs.DecreasingLists.{decreasing_lists}

-- the product of the powers of one list, for an index of as many numbers
abbrev pub term_of : (ℕ → ℕ) → List ℕ → List ℕ → ℕ
term_of inverse [] ks = 1
term_of inverse (n ∷ ns) [] = 1
term_of inverse (n ∷ ns) (k ∷ ks) = inverse n ^ k * term_of inverse ns ks

abbrev pub truncated_sum : (ℕ → ℕ) → ℕ → List ℕ → ℕ
truncated_sum inverse n ks = sum_by (λ ns. term_of inverse ns ks) (decreasing_lists n (length ks))

-- that of a word is that of its index
abbrev pub word_value : (ℕ → ℕ) → ℕ → List Letter → ℕ
word_value inverse n w = truncated_sum inverse n (index_of w)

-- continued linearly to a sum of words that is given by its terms
abbrev pub terms_value : (ℕ → ℕ) → ℕ → List (ℕ × List Letter) → ℕ
terms_value inverse n terms = terms_total (word_value inverse n) terms
