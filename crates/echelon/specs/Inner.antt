-- What single steps of the code answer. No public clause cites these, so a reader need not believe them.
-- Here: sums over accumulators, a row that was swept, reduced rows beside their sums, and rows that stand for columns.
use Rattle.std.specs.Prelude.{◌≡◌, ◌≢◌, ℕ, ◌+◌, ◌-◌, ◌*◌, ◌<◌, ◌≤◌, Bool, true, nat_eq, if◌then◌else◌, List, [], length, map, get_or, slice_index, All}
use Rattle.zeta_model.specs.Modular.{Same}
use Rattle.linear_model.specs.Rows.{combination, SameRow}
use Rattle.linear_model.specs.Forward.{IsSwept}
use Rattle.sparse_rows.specs.Entries.{IsRow, IsBelow, AllIn}
use Rattle.echelon.specs.Lists.{entries_of, lead_of, row_at, lead_at, FitsColumns}
use Rattle.echelon.specs.Offers.{InSpanOf, IsForwardRow, NamedBy, used_at}

-- the number that each element of a list stands for, and 0 past the end
abbrev pub numbers_of : {A : Type 0} → (A → ℕ) → List A → ℕ → ℕ
numbers_of value xs q = slice_index (map value xs) q

-- the row that is 1 at column k, and zero elsewhere
abbrev pub unit_row : ℕ → ℕ → ℕ
unit_row k q = if nat_eq k q then 1 else 0

module _ {E : Type 0} where
  -- row is p plus the rows from first on, each with its factor, and zero at their leads
  pub record IsSweptRow (m : ℕ) (has : E → Bool) (value : E → ℕ) (zero : E) (columns : ℕ) (rows : List (List (ℕ × E))) (first : ℕ) (p : ℕ
      → ℕ) (row : List (ℕ × E)) (factors : List E) : Type 0 where
    pub is_row : IsRow (λ k. k) zero 0 row
    pub below : IsBelow (λ k. k) columns row
    pub in_ring : AllIn has row
    pub count : length factors ≡ length rows
    pub factors_in_ring : All (λ a. has a ≡ true) factors
    pub none : (i : ℕ) → i < first → numbers_of value factors i ≡ 0
    pub swept : IsSwept m first (length rows) (lead_at rows) (row_at value rows) (numbers_of value factors) p (entries_of value row)

  -- row is the forward row of p by these factors times the scale
  pub record IsFoundRow (m : ℕ) (has : E → Bool) (value : E → ℕ) (zero : E) (columns : ℕ) (rows : List (List (ℕ × E))) (p : ℕ
      → ℕ) (row : List (ℕ × E)) (scale : E) (factors : List E) : Type 0 where
    pub fits : FitsColumns has zero columns row
    pub scale_in_ring : has scale ≡ true
    pub count : length factors ≡ length rows
    pub factors_in_ring : All (λ a. has a ≡ true) factors
    pub made : IsForwardRow m value rows p row (value scale) (λ i. value scale * numbers_of value factors i)

  -- row leads where row i of the list does, is zero at all other leads, and is the sum of the rows with their residues in uses
  pub record IsUsedRow (m : ℕ) (has : E → Bool) (value : E
      → ℕ) (zero : E) (columns : ℕ) (numbers : List ℕ) (rows : List (List (ℕ × E))) (i : ℕ) (row uses : List (ℕ × E)) : Type 0 where
    pub fits : FitsColumns has zero columns row
    pub leads : lead_of row ≡ lead_at rows i
    pub one : Same m (entries_of value row (lead_of row)) 1
    pub clear : (k : ℕ) → k < length rows → k ≢ i → Same m (entries_of value row (lead_at rows k)) 0
    pub sum : SameRow m (entries_of value row) (combination (length rows) (row_at value rows) (used_at value numbers uses))
    pub named : NamedBy value numbers uses
    pub in_ring : AllIn has uses

  -- so is some row of the list
  pub record IsUsed (m : ℕ) (has : E → Bool) (value : E
      → ℕ) (zero : E) (columns : ℕ) (numbers : List ℕ) (rows : List (List (ℕ × E))) (row uses : List (ℕ × E)) : Type 0 where
    pub place : ℕ
    pub inside : place < length rows
    pub used : IsUsedRow m has value zero columns numbers rows place row uses

  -- the reduced rows that lead below a column, by rising leads
  pub record IsReducing (m : ℕ) (has : E → Bool) (value : E
      → ℕ) (zero : E) (columns : ℕ) (numbers : List ℕ) (rows : List (List (ℕ × E))) (column : ℕ) (reduced uses : List (List (ℕ × E))) : Type 0 where
    pub count : length uses ≡ length reduced
    pub made : (j : ℕ) → j < length reduced → IsUsed m has value zero columns numbers rows (get_or reduced j []) (get_or uses j [])
    pub rising : (j k : ℕ) → j < k → k < length reduced → lead_at reduced j < lead_at reduced k
    pub below : (j : ℕ) → j < length reduced → lead_at reduced j < column
    pub complete : (i : ℕ) → i < length rows → lead_at rows i < column → (j : ℕ) × (j < length reduced) × (lead_at reduced j ≡ lead_at rows i)

  -- sum is the sum of the combinations with the residues that uses has at their numbers
  pub record IsEvaluated (m : ℕ) (has : E → Bool) (value : E
      → ℕ) (numbers : List ℕ) (combinations : List (List (ℕ × E))) (uses sum : List (ℕ × E)) : Type 0 where
    pub is_sum : SameRow m (entries_of value sum) (combination (length combinations) (row_at value combinations) (used_at value numbers uses))
    pub sum_in_ring : AllIn has sum

  -- p is q plus a combination of the rows of the list
  abbrev pub IsRest : ℕ → (E → ℕ) → List (List (ℕ × E)) → (ℕ → ℕ) → (ℕ → ℕ) → Type 0
  IsRest m value rows p q = (c : ℕ → ℕ) × SameRow m p (λ col. q col + combination (length rows) (row_at value rows) c col)

  -- each column's row is what is left of its unit row
  abbrev pub AllStand : ℕ → (E → ℕ) → List (List (ℕ × E)) → List (List (ℕ × E)) → Type 0
  AllStand m value rows standing = (k : ℕ) → k < length standing → IsRest m value rows (unit_row k) (entries_of value (get_or standing k []))

  -- a row for each column, of these columns and of the ring
  pub record AreWithin (has : E → Bool) (standing : List (List (ℕ × E))) : Type 0 where
    pub few : length standing ≤ 65536
    pub below : (k : ℕ) → k < length standing → IsBelow (λ k. k) (length standing) (get_or standing k [])
    pub in_ring : (k : ℕ) → k < length standing → AllIn has (get_or standing k [])

  -- the other way round: n is above every earlier number, and the row leads with 1 and is zero at every earlier lead
  pub record IsForwardAt (value : E → ℕ) (zero : E) (above : ℕ) (rows : List (List (ℕ × E))) (n : ℕ) (row : List (ℕ × E)) : Type 0 where
    pub number : above ≤ n
    pub some : 0 < length row
    pub is_row : IsRow (λ k. k) zero 0 row
    pub one : entries_of value row (lead_of row) ≡ 1
    pub clear : (i : ℕ) → i < length rows → entries_of value row (lead_at rows i) ≡ 0

  -- the other way round: row i leads with 1, behind the row before it, and its lead column is zero in every other row
  pub record IsReducedAt (value : E → ℕ) (zero : E) (rows : List (List (ℕ × E))) (i : ℕ) : Type 0 where
    pub some : 0 < length (get_or rows i [])
    pub is_row : IsRow (λ k. k) zero 0 (get_or rows i [])
    pub one : row_at value rows i (lead_at rows i) ≡ 1
    pub rising : 0 < i → lead_at rows (i - 1) < lead_at rows i
    pub clear : (k : ℕ) → k < length rows → k ≢ i → row_at value rows k (lead_at rows i) ≡ 0

  -- row i leads with 1, behind the row before it
  pub record LeadsAt (value : E → ℕ) (zero : E) (rows : List (List (ℕ × E))) (i : ℕ) : Type 0 where
    pub some : 0 < length (get_or rows i [])
    pub is_row : IsRow (λ k. k) zero 0 (get_or rows i [])
    pub one : row_at value rows i (lead_at rows i) ≡ 1
    pub rising : 0 < i → lead_at rows (i - 1) < lead_at rows i

  -- made has, for each row that leads below column, a row of their span that leads where it does
  pub record AreFound (m : ℕ) (has : E → Bool) (value : E
      → ℕ) (columns : ℕ) (rows : List (List (ℕ × E))) (column : ℕ) (made : List (List (ℕ × E))) : Type 0 where
    pub below : (j : ℕ) → j < length made → IsBelow (λ k. k) columns (get_or made j [])
    pub in_ring : (j : ℕ) → j < length made → AllIn has (get_or made j [])
    pub lies : (j : ℕ) → j < length made → InSpanOf m value rows (row_at value made j)
    pub complete : (i : ℕ) → i < length rows → lead_at rows i < column → (j : ℕ) × (j < length made) × (lead_at made j ≡ lead_at rows i)
