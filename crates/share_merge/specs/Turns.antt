-- Shares of a table to be merged: which of them count, and their rows in turn.
use Rattle.std.specs.Prelude.{◌≡◌, ℕ, zero, suc, ◌<◌, not, nat_eq, Option, Some, None, List, [], ◌∷◌, ◌++◌, length, get_or, slice_get, filter, All, Any}
use Rattle.std.specs.List.{flat_map}
use Rattle.zeta_model.specs.Sums.{Sum}
use Rattle.column_order.specs.Columns.{ColumnList}
use Rattle.lyndon_polys.specs.Tables.{RingTable}
use Rattle.echelon.specs.Lists.{entries_of}
use Rattle.table_model.specs.MonomialWords.{words_of_row}
use Rattle.table_model.specs.ReducedRows.{IsUnbroken, BreaksFirst}
use Rattle.file_model.specs.TableOf.{IsTableOf}
use Rattle.share_model.specs.Checked.{Checked}

-- a share of this table, one of so many
pub record IsShareOf {R E : Type 0} (table : RingTable R) (shares : ℕ) (c : Checked R E) : Type 0 where
  pub params : IsTableOf c.params table.columns
  pub ring : c.list.ring ≡ table.ring
  pub of : c.id.of ≡ shares

-- a row of a share, by its number there
pub record Turn (R E : Type 0) : Type 0 where
  pub share : Checked R E
  pub row : ℕ

module _ {R E : Type 0} where
  -- so is each share of the list
  abbrev pub AreSharesOf : RingTable R → ℕ → List (Checked R E) → Type 0
  AreSharesOf table shares list = All (IsShareOf table shares) list

  -- how many shares the table has, as the first of the list says
  abbrev pub share_count : List (Checked R E) → ℕ
  share_count [] = 0
  share_count (c ∷ cs) = c.id.of

  -- some share of the list has this index
  abbrev pub HasIndex : List (Checked R E) → ℕ → Type 0
  HasIndex list index = Any (λ c. c.id.index ≡ index) list

  -- each index occurs
  abbrev pub HasAll : ℕ → List (Checked R E) → Type 0
  HasAll shares list = (index : ℕ) → index < shares → HasIndex list index

  -- the least index that does not occur
  pub record IsLeastMissing (shares : ℕ) (list : List (Checked R E)) (index : ℕ) : Type 0 where
    pub inside : index < shares
    pub missing : ¬ (HasIndex list index)
    pub earlier : (k : ℕ) → k < index → HasIndex list k

  -- the shares that count: of each index the first
  abbrev pub counted : List (Checked R E) → List (Checked R E)
  counted [] = []
  counted (c ∷ cs) = c ∷ filter (λ d. not (nat_eq c.id.index d.id.index)) (counted cs)

  -- the first rows of a share, in their order
  abbrev pub first_rows : Checked R E → ℕ → List (Turn R E)
  first_rows c zero = []
  first_rows c (suc n) = first_rows c n ++ record { share = c; row = n } ∷ []

  -- the turns: the rows of the counted shares, share after share
  abbrev pub turns_of : List (Checked R E) → List (Turn R E)
  turns_of list = flat_map (λ c. first_rows c (length c.list.rows)) (counted list)

  abbrev pub row_where : Option (Turn R E) → List (ℕ × E)
  row_where None = []
  row_where (Some turn) = get_or turn.share.list.rows turn.row []

  -- the row of turn t, and past the last turn the zero row
  abbrev pub turn_row : List (Checked R E) → ℕ → List (ℕ × E)
  turn_row list t = row_where (slice_get (turns_of list) t)

  -- the words of the row of turn t
  abbrev pub turn_words : (E → ℕ) → ColumnList → List (Checked R E) → ℕ → Sum
  turn_words value columns list t = words_of_row columns.list (entries_of value (turn_row list t))

  -- the work over the turns is broken nowhere
  abbrev pub MergesWhole : ℕ → (E → ℕ) → ColumnList → List (Checked R E) → Type 0
  MergesWhole m value columns list = IsUnbroken m columns (turn_words value columns list) (length (turns_of list))

  -- it is broken, first at this row of the share with this index, where the residue has no inverse
  pub record BreaksAtRow (m : ℕ) (value : E → ℕ) (columns : ColumnList) (list : List (Checked R E)) (residue index row : ℕ) : Type 0 where
    pub place : ℕ
    pub turn : Turn R E
    pub is_turn : slice_get (turns_of list) place ≡ Some turn
    pub of_share : turn.share.id.index ≡ index
    pub of_row : turn.row ≡ row
    pub breaks : BreaksFirst m columns (turn_words value columns list) place residue
