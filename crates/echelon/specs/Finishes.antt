-- What the reduced rows of an elimination are made of, and where a list of rows is not reduced.
use Rattle.std.specs.Prelude.{◌≡◌, ◌≢◌, ℕ, ◌-◌, ◌<◌, ◌≤◌, ◌⊎◌, Bool, List, [], length, get_or}
use Rattle.linear_model.specs.Rows.{combination, SameRow, SameSpan}
use Rattle.sparse_rows.specs.Entries.{AllIn, IsRow}
use Rattle.echelon.specs.Lists.{row_at, lead_at}
use Rattle.echelon.specs.Offers.{NamedBy, used_at}

module _ {E : Type 0} where
  -- the two lists have one span
  abbrev pub SameSpanOf : ℕ → (E → ℕ) → List (List (ℕ × E)) → List (List (ℕ × E)) → Type 0
  SameSpanOf m value rows others = SameSpan m (length rows) (row_at value rows) (length others) (row_at value others)

  -- each of the sums is the sum of the rows, row l of them taken factors i l times in sum i
  abbrev pub AreSums : ℕ → (E → ℕ) → List (List (ℕ × E)) → (ℕ → ℕ → ℕ) → List (List (ℕ × E)) → Type 0
  AreSums m value rows factors sums =
      (i : ℕ) → i < length sums → SameRow m (row_at value sums i) (combination (length rows) (row_at value rows) (factors i))

  -- row i is zero, has a lead that is not 1, does not lead behind the row before it, or has its lead column not zero in another row
  abbrev pub IsNotReducedAt : (E → ℕ) → List (List (ℕ × E)) → ℕ → Type 0
  IsNotReducedAt value rows i =
      (get_or rows i [] ≡ []) ⊎ ((row_at value rows i (lead_at rows i) ≢ 1)
      ⊎ (((0 < i) × (lead_at rows i ≤ lead_at rows (i - 1))) ⊎ ((k : ℕ) × (k < length rows) × (k ≢ i) × (row_at value rows k (lead_at rows i) ≢ 0))))

  -- uses has a combination for each reduced row, which is the sum of the rows with the residues that it has at their numbers
  pub record AreUses (m : ℕ) (has : E → Bool) (value : E → ℕ) (numbers : List ℕ) (rows reduced uses : List (List (ℕ × E))) : Type 0 where
    pub count : length uses ≡ length reduced
    pub named : (i : ℕ) → i < length uses → NamedBy value numbers (get_or uses i [])
    pub in_ring : (i : ℕ) → i < length uses → AllIn has (get_or uses i [])
    pub sums : AreSums m value rows (λ i. used_at value numbers (get_or uses i [])) reduced

  -- combinations has one for each reduced row: it is the same sum of the kept combinations as the reduced row is of the kept rows
  pub record AreRecorded (m : ℕ) (has : E → Bool) (value : E → ℕ) (rows kept reduced combinations : List (List (ℕ × E))) : Type 0 where
    pub count : length combinations ≡ length reduced
    pub in_ring : (i : ℕ) → i < length combinations → AllIn has (get_or combinations i [])
    pub factors : ℕ → ℕ → ℕ
    pub sums : AreSums m value rows factors reduced
    pub combined : AreSums m value kept factors combinations
