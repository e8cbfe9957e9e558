-- What an offer finds of a row, and what it makes of it.
use Rattle.std.specs.Prelude.{◌≡◌, ◌≢◌, ℕ, ◌+◌, ◌*◌, ◌%◌, ◌<◌, ◌≤◌, ◌⊎◌, nat_eq, if◌then◌else◌, List, [], length, get_or}
use Rattle.zeta_model.specs.Modular.{Same}
use Rattle.linear_model.specs.Rows.{combination, SameRow, InSpan, SameSpan, rows_and}
use Rattle.linear_model.specs.Reduced.{IsLead, IsNormalForm}
use Rattle.sparse_rows.specs.Entries.{IsRow}
use Rattle.echelon.specs.Lists.{entries_of, lead_of, row_at, lead_at}

module _ {E : Type 0} where
  -- p is a combination of the rows of the list
  abbrev pub InSpanOf : ℕ → (E → ℕ) → List (List (ℕ × E)) → (ℕ → ℕ) → Type 0
  InSpanOf m value rows p = InSpan m (length rows) (row_at value rows) p

  -- q is the remainder of p: its normal form by the rows of the list
  abbrev pub IsRemainder : ℕ → (E → ℕ) → List (List (ℕ × E)) → (ℕ → ℕ) → (ℕ → ℕ) → Type 0
  IsRemainder m value rows p q = IsNormalForm m (length rows) (lead_at rows) (row_at value rows) p q

  -- the remainder of p is not zero and leads with the residue lead, which has no inverse
  pub record HasNoInverse (m : ℕ) (value : E → ℕ) (rows : List (List (ℕ × E))) (p : ℕ → ℕ) (lead : ℕ) : Type 0 where
    pub remainder : ℕ → ℕ
    pub column : ℕ
    pub is_remainder : IsRemainder m value rows p remainder
    pub leads : IsLead m remainder column
    pub residue : lead ≡ remainder column % m
    pub no_inverse : (b : ℕ) → lead * b % m ≢ 1

  -- the forward row of p: the remainder of p times the inverse of its lead; it is scale times p plus the rows, each with its factor
  pub record IsForwardRow (m : ℕ) (value : E → ℕ) (rows : List (List (ℕ × E))) (p : ℕ → ℕ) (forward : List (ℕ × E)) (scale : ℕ) (factors : ℕ
      → ℕ) : Type 0 where
    pub remainder : ℕ → ℕ
    pub is_remainder : IsRemainder m value rows p remainder
    pub leads : IsLead m remainder (lead_of forward)
    pub inverse : Same m (scale * remainder (lead_of forward)) 1
    pub is_scaled : SameRow m (entries_of value forward) (λ q. scale * remainder q)
    pub sum : SameRow m (entries_of value forward) (λ q. scale * p q + combination (length rows) (row_at value rows) factors q)

  -- the pairs of uses are named by these numbers
  abbrev pub NamedBy : (E → ℕ) → List ℕ → List (ℕ × E) → Type 0
  NamedBy value numbers uses = (q : ℕ) → ((i : ℕ) → i < length numbers → get_or numbers i 0 ≢ q) → entries_of value uses q ≡ 0

  -- the residue of uses at the number of place i
  abbrev pub used_at : (E → ℕ) → List ℕ → List (ℕ × E) → ℕ → ℕ
  used_at value numbers uses i = entries_of value uses (get_or numbers i 0)

  -- c is scale at n, plus the combinations, each with its factor
  abbrev pub IsCombined : ℕ → (E → ℕ) → List (List (ℕ × E)) → ℕ → ℕ → (ℕ → ℕ) → List (ℕ × E) → Type 0
  IsCombined m value combinations n scale factors c =
      SameRow m (entries_of value c) (λ q. scale * (if nat_eq n q then 1 else 0) + combination (length combinations) (row_at value combinations) factors q)

  -- the span of the new rows is that of the old rows and p
  abbrev pub TakesIn : ℕ → (E → ℕ) → List (List (ℕ × E)) → (ℕ → ℕ) → List (List (ℕ × E)) → Type 0
  TakesIn m value old p new = SameSpan m (length old + 1) (rows_and (length old) (row_at value old) p) (length new) (row_at value new)

  -- p is the value of a combination of the relations 0 to below count, whose rows are relations
  abbrev pub IsValueOf : ℕ → (E → ℕ) → ℕ → (ℕ → ℕ → ℕ) → List (ℕ × E) → (ℕ → ℕ) → Type 0
  IsValueOf m value count relations c p = SameRow m p (combination count relations (entries_of value c))

  -- n is not above every earlier number, the row is zero, its lead is not 1, or it is not zero at an earlier lead
  abbrev pub IsNotForward : ℕ → (E → ℕ) → ℕ → List (List (ℕ × E)) → ℕ → List (ℕ × E) → Type 0
  IsNotForward m value above rows n row =
      (n < above) ⊎ ((row ≡ []) ⊎ ((entries_of value row (lead_of row) ≢ 1) ⊎ ((i : ℕ) × (i < length rows) × (entries_of value row (lead_at rows i) ≢ 0))))
