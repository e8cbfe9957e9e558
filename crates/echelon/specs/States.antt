-- What contracts see of an elimination and of a list of reduced rows.
use Rattle.std.specs.Prelude.{◌≡◌, ℕ, ◌<◌, ◌≤◌, Bool, List, [], length, get_or, refl}
use Rattle.std.specs.Coded.{Coded, code_by, coded×, coded_ℕ, coded_list}
use Rattle.sparse_rows.specs.Entries.{AllIn}
use Rattle.echelon.specs.Lists.{AllFit, AreForward, AreReduced}

-- the ring, the number of columns, a number above all that were offered or restored, and the forward rows in the order
-- in which they were kept, each beside the number of its relation
pub record Elimination (R E : Type 0) : Type 0 where
  pub ring : R
  pub columns : ℕ
  pub above : ℕ
  pub numbers : List ℕ
  pub rows : List (List (ℕ × E))

-- the same, and beside each forward row its combination of relations
pub record Recorded (R E : Type 0) : Type 0 where
  pub core : Elimination R E
  pub combinations : List (List (ℕ × E))

-- the ring, a number above all columns, and the rows
pub record RowList (R E : Type 0) : Type 0 where
  pub ring : R
  pub columns : ℕ
  pub rows : List (List (ℕ × E))

abbrev pub elimination_code : {R E : Type 0} → Coded R → Coded E → Coded (Elimination R E)
elimination_code {R} {E} r e =
    code_by (R × (ℕ × (ℕ × (List ℕ × List (List (ℕ × E))))))
    (coded× r (coded× coded_ℕ (coded× coded_ℕ (coded× (coded_list coded_ℕ) (coded_list (coded_list (coded× coded_ℕ e)))))))
    (λ s. (s.ring, (s.columns, (s.above, (s.numbers, s.rows)))))
    (λ p. record { ring = p.0; columns = p.1.0; above = p.1.1.0; numbers = p.1.1.1.0; rows = p.1.1.1.1 }) (λ _. refl)

abbrev pub recorded_code : {R E : Type 0} → Coded R → Coded E → Coded (Recorded R E)
recorded_code {R} {E} r e =
    code_by (Elimination R E × List (List (ℕ × E))) (coded× (elimination_code r e) (coded_list (coded_list (coded× coded_ℕ e))))
    (λ s. (s.core, s.combinations)) (λ p. record { core = p.0; combinations = p.1 }) (λ _. refl)

abbrev pub row_list_code : {R E : Type 0} → Coded R → Coded E → Coded (RowList R E)
row_list_code {R} {E} r e =
    code_by (R × (ℕ × List (List (ℕ × E)))) (coded× r (coded× coded_ℕ (coded_list (coded_list (coded× coded_ℕ e)))))
    (λ s. (s.ring, (s.columns, s.rows))) (λ p. record { ring = p.0; columns = p.1.0; rows = p.1.1 }) (λ _. refl)

module _ {E : Type 0} where
  -- forward rows that fit the columns, and numbers that increase and stay below above
  pub record IsElimination (m : ℕ) (has : E → Bool) (value : E
      → ℕ) (zero : E) (columns above : ℕ) (numbers : List ℕ) (rows : List (List (ℕ × E))) : Type 0 where
    pub few : columns ≤ 2048
    pub fit : AllFit has zero columns rows
    pub forward : AreForward m value rows
    pub count : length numbers ≡ length rows
    pub rising : (i k : ℕ) → i < k → k < length numbers → get_or numbers i 0 < get_or numbers k 0
    pub below : (i : ℕ) → i < length numbers → get_or numbers i 0 < above

  -- reduced rows that fit the columns
  pub record IsRowList (m : ℕ) (has : E → Bool) (value : E → ℕ) (zero : E) (columns : ℕ) (rows : List (List (ℕ × E))) : Type 0 where
    pub few : columns ≤ 65536
    pub count : length rows ≤ 65536
    pub fit : AllFit has zero columns rows
    pub reduced : AreReduced m value rows

  -- the elements of each combination are of the ring
  abbrev pub AllIns : (E → Bool) → List (List (ℕ × E)) → Type 0
  AllIns has combinations = (i : ℕ) → i < length combinations → AllIn has (get_or combinations i [])
