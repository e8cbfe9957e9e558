-- What an offer answers, and what it tells of a forward row and its combination.
use Rattle.std.specs.Prelude.{ℕ, Bool, List}
use Rattle.echelon.specs.declared.echelon.Offered.{Offered}
use Rattle.echelon.specs.declared.echelon.Offered.TheVariants.{Zero, Accepted}
use Rattle.sparse_rows.specs.Entries.{AllIn}
use Rattle.echelon.specs.Lists.{FitsColumns}
use Rattle.echelon.specs.Offers.{IsForwardRow, IsCombined}

module _ {R E A : Type 0} where
  -- P where the answer is Zero
  abbrev pub WhereZero : Offered R E A → Type 0 → Type 0
  WhereZero Zero P = P
  WhereZero (Accepted row combination) P = Unit {0}

  -- P of the forward row and the combination of an answer
  abbrev pub WhereAccepted : Offered R E A → (List (ℕ × E) → List (ℕ × E) → Type 0) → Type 0
  WhereAccepted Zero P = Unit {0}
  WhereAccepted (Accepted row combination) P = P row combination

module _ {E : Type 0} where
  -- forward is the forward row of p: scale times p plus the rows, each with its factor; so is its combination, with scale at n
  pub record IsRecorded (m : ℕ) (has : E → Bool) (value : E → ℕ) (zero : E) (columns : ℕ) (rows combinations : List (List (ℕ × E))) (n : ℕ) (p : ℕ
      → ℕ) (forward combination : List (ℕ × E)) : Type 0 where
    pub scale : ℕ
    pub factors : ℕ → ℕ
    pub fits : FitsColumns has zero columns forward
    pub forward_row : IsForwardRow m value rows p forward scale factors
    pub combined : IsCombined m value combinations n scale factors combination
    pub in_ring : AllIn has combination
