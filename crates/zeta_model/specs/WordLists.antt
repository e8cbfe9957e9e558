-- All words of a weight, the admissible ones among them up to a depth, in increasing order, and how many there are.
use Rattle.std.specs.Prelude.{ℕ, zero, suc, ◌+◌, nat_le, List, [], ◌∷◌, ◌++◌, map, filter}
use Rattle.zeta_model.specs.declared.Letter.{Letter}
use Rattle.zeta_model.specs.declared.Letter.TheVariants.{X, Y}
use Rattle.zeta_model.specs.Words.{depth_of, is_admissible}

-- the words of k letters
unfoldable pub all_words : ℕ → List (List Letter)
all_words zero = [] ∷ []
all_words (suc k) = map (λ w. X ∷ w) (all_words k) ++ map (λ w. Y ∷ w) (all_words k)

-- the admissible words of k letters
abbrev pub admissible_words : ℕ → List (List Letter)
admissible_words k = filter is_admissible (all_words k)

-- the admissible words of k letters, at most d of them y
unfoldable pub admissible_within : ℕ → ℕ → List (List Letter)
admissible_within k d = filter (λ w. nat_le (depth_of w) d) (admissible_words k)

-- n over r
unfoldable pub binomial : ℕ → ℕ → ℕ
binomial n zero = 1
binomial zero (suc r) = 0
binomial (suc n) (suc r) = binomial n r + binomial n (suc r)

-- the sum of n over r, for r below d
unfoldable pub binomial_sum : ℕ → ℕ → ℕ
binomial_sum n zero = 0
binomial_sum n (suc d) = binomial_sum n d + binomial n d
