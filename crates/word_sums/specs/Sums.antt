-- What is said of a sum: that it is one, which sum of the model it is, and what it gained.
use Rattle.std.specs.Prelude.{◌≡◌, ℕ, ◌+◌, ◌%◌, Bool, List}
use Rattle.zeta_model.specs.declared.Letter.{Letter}
use Rattle.zeta_model.specs.Sums.{Sum}
use Rattle.word_sums.specs.Terms.{coefficient_of, IsTerms, AllIn}

-- each word gains its number of `gained`, modulo m
pub record Gains (m : ℕ) (before after gained : Sum) : Type 0 where
  pub each : (t : List Letter) → after t ≡ (before t + gained t) % m

module _ {E : Type 0} where
  -- each word stands once, with an element of the ring that is not zero
  pub record IsSum (zero : E) (has : E → Bool) (sum : List (List Letter × E)) : Type 0 where
    pub terms : IsTerms zero sum
    pub in_ring : AllIn has sum

  -- it is a sum of the ring, and it gives each word its number of s, modulo m
  pub record IsSumOf (zero : E) (has : E → Bool) (value : E → ℕ) (m : ℕ) (s : Sum) (sum : List (List Letter × E)) : Type 0 where
    pub terms : IsTerms zero sum
    pub in_ring : AllIn has sum
    pub coefficients : (t : List Letter) → coefficient_of value sum t ≡ s t % m

  -- what `after` gives each word is what `before` gives it, and its number of `gained`, modulo m
  abbrev pub HasGained : (E → ℕ) → ℕ → List (List Letter × E) → List (List Letter × E) → Sum → Type 0
  HasGained value m before after gained = Gains m (coefficient_of value before) (coefficient_of value after) gained
