-- The product of two sums: the product of words continued linearly on both sides.
use Rattle.std.specs.Prelude.{◌≡◌, ℕ, ◌+◌, ◌≤◌, List, length, All, Contains}
use Rattle.std.specs.Map.{keys_of}
use Rattle.zeta_model.specs.declared.Letter.{Letter}
use Rattle.zeta_model.specs.Product.{Alphabet, prod}
use Rattle.zeta_model.specs.Sums.{Sum, sum_of, continued}

-- the product of the word u and the sum of the terms
abbrev pub product_with_terms : Alphabet → List (ℕ × List Letter) → List Letter → Sum
product_with_terms L q u = continued (λ v. sum_of (prod L u v)) q

-- the product of two sums that are given by their terms
abbrev pub product_of_terms : Alphabet → List (ℕ × List Letter) → List (ℕ × List Letter) → Sum
product_of_terms L p q = continued (product_with_terms L q) p

module _ {E : Type 0} where
  -- some word of the terms has n letters
  abbrev pub HasWeight : List (List Letter × E) → ℕ → Type 0
  HasWeight terms n = (u : List Letter) × Contains (keys_of terms) u × (length u ≡ n)

  -- each word of a and each word of b have at most n letters together
  abbrev pub AreWithin : ℕ → List (List Letter × E) → List (List Letter × E) → Type 0
  AreWithin n a b = All (λ u. All (λ v. length u + length v ≤ n) (keys_of b)) (keys_of a)

  -- some word of a and some word of b have n letters together, and no two have more
  pub record IsGreatestWeight (a b : List (List Letter × E)) (n : ℕ) : Type 0 where
    pub reached : (u : List Letter) × (v : List Letter) × Contains (keys_of a) u × Contains (keys_of b) v × (length u + length v ≡ n)
    pub most : AreWithin n a b
