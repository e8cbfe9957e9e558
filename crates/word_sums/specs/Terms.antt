-- Terms of a sum: words with elements of a ring.
use Rattle.std.specs.Prelude.{◌≡◌, ◌≢◌, ℕ, Bool, true, List, All}
use Rattle.std.specs.List.{IsDistinct}
use Rattle.std.specs.Map.{keys_of, values_of}
use Rattle.zeta_model.specs.declared.Letter.{Letter}
use Rattle.zeta_model.specs.Sums.{Sum, same_word, single, numbered, continued}

module _ {E : Type 0} where
  -- the sum that the terms give, each word times its residue; value says which residue an element stands for
  abbrev pub coefficient_of : (E → ℕ) → List (List Letter × E) → Sum
  coefficient_of value terms = continued single (numbered value terms)

  -- each word stands once, and no element is zero
  pub record IsTerms (zero : E) (terms : List (List Letter × E)) : Type 0 where
    pub once : IsDistinct same_word (keys_of terms)
    pub nonzero : All (λ a. a ≢ zero) (values_of terms)

  -- the elements are of the ring
  abbrev pub AllIn : (E → Bool) → List (List Letter × E) → Type 0
  AllIn has terms = All (λ a. has a ≡ true) (values_of terms)
