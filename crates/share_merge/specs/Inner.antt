-- What single steps of the code keep. No public clause cites this, so a reader need not believe it.
use Rattle.std.specs.Prelude.{◌≡◌, ℕ, zero, suc, ◌<◌, ◌≤◌, Bool, Option, Some, None, List, [], ◌∷◌, ◌++◌, length, get_or, slice_get}
use Rattle.zeta_model.specs.Modular.{Same}
use Rattle.linear_model.specs.Rows.{combination, SameRow}
use Rattle.column_order.specs.Columns.{ColumnList, column_count}
use Rattle.echelon.specs.Lists.{entries_of, row_at, lead_at}
use Rattle.echelon.specs.States.{Recorded, IsElimination, IsRowList}
use Rattle.echelon.specs.Offers.{IsValueOf}
use Rattle.lyndon_polys.specs.Tables.{RingTable}
use Rattle.table_model.specs.Conversion.{IsTable, Converts}
use Rattle.table_model.specs.ListedSpan.{count_of}
use Rattle.table_model.specs.Complete.{IsComplete}
use Rattle.table_model.specs.ReducedRows.{IsUnbroken}
use Rattle.share_model.specs.Checked.{Checked, IsChecked}
use Rattle.share_build.specs.Inner.{SpanFirst}
use Rattle.share_merge.specs.declared.fault.MergeFault.{MergeFault}
use Rattle.share_merge.specs.declared.fault.MergeFault.TheVariants.{MissingShare, NoInverse, Memory}
use Rattle.share_merge.specs.declared.places.RowPlace.{RowPlace}
use Rattle.share_merge.specs.Turns.{Turn, turns_of, turn_row, turn_words}
use Rattle.share_merge.specs.Results.{IsListed, AreListed}

-- where the first rows of the share at one place of a list stand
abbrev pub places_of : ℕ → ℕ → List RowPlace
places_of share zero = []
places_of share (suc n) = places_of share n ++ record { share = share; row = n } ∷ []

module _ {R E : Type 0} where
  -- the share is checked, over its own ring
  abbrev pub IsOwn : (R → ℕ) → (R → E → Bool) → (R → E → ℕ) → Checked R E → Type 0
  IsOwn modulus has value c = IsChecked (modulus c.list.ring) (has c.list.ring) (value c.list.ring) c

  -- the row of the turn stands at this place of the list
  pub record IsPlaceOf (modulus : R → ℕ) (has : R → E → Bool) (value : R → E → ℕ) (list : List (Checked R E)) (turn : Turn R E) (p : RowPlace) : Type 0 where
    pub share : slice_get list p.share ≡ Some turn.share
    pub row : turn.row ≡ p.row
    pub inside : turn.row < length turn.share.list.rows
    pub checked : IsOwn modulus has value turn.share

  -- a place for each turn
  abbrev pub ArePlaces : (R → ℕ) → (R → E → Bool) → (R → E → ℕ) → List (Checked R E) → List (Turn R E) → List RowPlace → Type 0
  ArePlaces modulus has value list [] [] = Unit {0}
  ArePlaces modulus has value list [] (p ∷ ps) = ⊥
  ArePlaces modulus has value list (turn ∷ turns) [] = ⊥
  ArePlaces modulus has value list (turn ∷ turns) (p ∷ ps) = IsPlaceOf modulus has value list turn p × ArePlaces modulus has value list turns ps

  -- the rows of the turns as functions of columns
  abbrev pub turn_rows : (E → ℕ) → List (Checked R E) → ℕ → ℕ → ℕ
  turn_rows value list t = entries_of value (turn_row list t)

  abbrev pub combination_where : Option (Turn R E) → List (ℕ × E)
  combination_where None = []
  combination_where (Some turn) = get_or turn.share.combinations turn.row []

  -- the combinations of their rows
  abbrev pub turn_combination : List (Checked R E) → ℕ → List (ℕ × E)
  turn_combination list t = combination_where (slice_get (turns_of list) t)

  abbrev pub turn_combinations : (E → ℕ) → List (Checked R E) → ℕ → ℕ → ℕ
  turn_combinations value list t = entries_of value (turn_combination list t)

  -- the combination has none but the first turns, and the row is its value
  pub record IsSumOfTurns (m : ℕ) (value : E → ℕ) (list : List (Checked R E)) (turns : ℕ) (row combination : List (ℕ × E)) : Type 0 where
    pub ends : (q : ℕ) → turns ≤ q → Same m (entries_of value combination q) 0
    pub evaluates : IsValueOf m value (length (turns_of list)) (turn_rows value list) combination (entries_of value row)

  -- the rows of the first turns were offered to the elimination, and the work is broken at none of them
  pub record HasOffered (m : ℕ) (has : E → Bool) (value : E → ℕ) (zero : E) (table : RingTable R) (list : List (Checked R E)) (turns : ℕ) (e : Recorded R E)
      : Type 0 where
    pub is_table : IsTable m table.columns
    pub converts : Converts m table.columns
    pub ring : e.core.ring ≡ table.ring
    pub columns : e.core.columns ≡ length table.columns.list
    pub few : column_count table.columns.weight table.columns.depth ≤ 2048
    pub above : e.core.above ≤ turns
    pub elimination : IsElimination m has value zero e.core.columns e.core.above e.core.numbers e.core.rows
    pub count : length e.combinations ≡ length e.core.rows
    pub span : SpanFirst m value table.columns (turn_words value table.columns list) turns e.core.rows
    pub unbroken : IsUnbroken m table.columns (turn_words value table.columns list) turns
    pub combined : (i : ℕ) → i < length e.core.rows → IsSumOfTurns m value list turns (get_or e.core.rows i []) (get_or e.combinations i [])

  -- a combination of listed relations: the sum over the turns, the combination of the row of each times its residue
  pub record IsExpanded (m : ℕ) (has : E → Bool) (value : E → ℕ) (zero : E) (columns : ColumnList) (list : List (Checked R E))
      (turns expanded : List (ℕ × E)) : Type 0 where
    pub listed : IsListed has zero (count_of columns) expanded
    pub sum : SameRow m (entries_of value expanded) (combination (length (turns_of list)) (turn_combinations value list) (entries_of value turns))

  -- so is each
  pub record AreExpanded (m : ℕ) (has : E → Bool) (value : E → ℕ) (zero : E) (columns : ColumnList) (list : List (Checked R E))
      (combinations expanded : List (List (ℕ × E))) : Type 0 where
    pub count : length expanded ≡ length combinations
    pub each : (i : ℕ) → i < length expanded → IsExpanded m has value zero columns list (get_or combinations i []) (get_or expanded i [])

-- the rows are complete, with these combinations
pub record IsMerged {E : Type 0} (m : ℕ) (has : E → Bool) (value : E → ℕ) (zero : E) (columns : ColumnList) (rows combinations : List (List (ℕ × E)))
    : Type 0 where
  pub list : IsRowList m has value zero (length columns.list) rows
  pub listed : AreListed has zero (count_of columns) (length rows) combinations
  pub complete : IsComplete m columns (length rows) (lead_at rows) (row_at value rows) (row_at value combinations)

-- a refusal of the work: where it breaks, or want of memory
abbrev pub HasCause : (ℕ → ℕ → ℕ → Type 0) → MergeFault → Type 0
HasCause breaks (MissingShare index) = ⊥
HasCause breaks (NoInverse value share row) = breaks value share row
HasCause breaks (Memory fault) = Unit {0}
