-- What an offer answers, and what it tells of a forward row.
use Rattle.std.specs.Prelude.{◌≡◌, ℕ, Bool, true, List}
use Rattle.echelon.specs.declared.row_echelon.Traced.{Traced}
use Rattle.echelon.specs.declared.row_echelon.Traced.TheVariants.{Zero, Accepted}
use Rattle.sparse_rows.specs.Entries.{AllIn}
use Rattle.echelon.specs.Lists.{FitsColumns}
use Rattle.echelon.specs.Offers.{IsForwardRow, NamedBy, used_at}

module _ {R E A : Type 0} where
  -- P where the answer is Zero
  abbrev pub IfZero : Traced R E A → Type 0 → Type 0
  IfZero Zero P = P
  IfZero (Accepted row scale uses) P = Unit {0}

  -- P of the forward row, the scale and the uses of an answer
  abbrev pub IfAccepted : Traced R E A → (List (ℕ × E) → E → List (ℕ × E) → Type 0) → Type 0
  IfAccepted Zero P = Unit {0}
  IfAccepted (Accepted row scale uses) P = P row scale uses

module _ {E : Type 0} where
  -- forward is the forward row of p: scale times p plus the rows, each with the residue that uses has at its number
  pub record IsTrace (m : ℕ) (has : E → Bool) (value : E → ℕ) (zero : E) (columns : ℕ) (numbers : List ℕ) (rows : List (List (ℕ × E))) (p : ℕ
      → ℕ) (forward : List (ℕ × E)) (scale : E) (uses : List (ℕ × E)) : Type 0 where
    pub fits : FitsColumns has zero columns forward
    pub forward_row : IsForwardRow m value rows p forward (value scale) (used_at value numbers uses)
    pub named : NamedBy value numbers uses
    pub scale_in_ring : has scale ≡ true
    pub uses_in_ring : AllIn has uses
