-- The sum of the terms of a line, what folding by duality makes of it, and the sums that vanish by duality.
use Rattle.std.specs.Prelude.{◌≡◌, ℕ, ◌-◌, ◌≤◌, Bool, true, if◌then◌else◌, List, length, map}
use Rattle.std.specs.List.{AllByRecursion}
use Rattle.zeta_model.specs.declared.Letter.{Letter}
use Rattle.zeta_model.specs.Words.{is_admissible}
use Rattle.zeta_model.specs.Duality.{dual_of, representative_of}
use Rattle.zeta_model.specs.Sums.{Sum, single, difference, continued, SameSum}
use Rattle.zeta_model.specs.Indices.{word_of_index}
use Rattle.dual_reply.specs.Grammar.{Term}
use Rattle.dual_reply.specs.declared.words.Signed.{Signed}

-- the word of an index, with its sign
abbrev pub signed : Bool → List ℕ → Signed
signed negative ks = record { negative = negative; word = word_of_index ks }

abbrev pub signed_of : Term → Signed
signed_of t = signed t.negative t.index

-- 1, or m - 1 where the sign is -
abbrev pub sign_number : ℕ → Bool → ℕ
sign_number m negative = if negative then m - 1 else 1

-- the words with their numbers
abbrev pub numbers_of : ℕ → List Signed → List (ℕ × List Letter)
numbers_of m terms = map (λ t. (sign_number m t.negative, t.word)) terms

-- the sum of some words with signs
abbrev pub word_sum : ℕ → List Signed → Sum
word_sum m terms = continued single (numbers_of m terms)

-- the same, with each word replaced by the lesser of it and its dual
abbrev pub folded_sum : ℕ → List Signed → Sum
folded_sum m terms = continued (λ w. single (representative_of w)) (numbers_of m terms)

-- the combination of the sums u - dual u, each u with its number
abbrev pub dual_sum : ℕ → List (ℕ × List Letter) → Sum
dual_sum m cs = continued (λ u. difference m (single u) (single (dual_of u))) cs

-- the sum is such a combination modulo m, over admissible words of weight at most 24
abbrev pub IsDualSum : ℕ → Sum → Type 0
IsDualSum m s =
    (cs : List (ℕ × List Letter))
    × AllByRecursion (λ c. (is_admissible c.1 ≡ true) × (length c.1 ≤ 24)) cs
    × SameSum m s (dual_sum m cs)
