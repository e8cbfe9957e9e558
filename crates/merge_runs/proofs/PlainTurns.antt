-- The turns of checked shares, and those of the shares with residues for elements.
use Rattle.std.specs.Prelude.{◌≡◌, ℕ, zero, suc, ◌+◌, not, nat_eq, Bool, true, false, cond, Option, Some, None, List, [], ◌∷◌, ◌++◌, length, map, slice_get, filter}
use Rattle.std.specs.List.{flat_map}
use Rattle.std.specs.Option.{option_map}
use Rattle.std.proofs.Common.{eqb, refl, sym, ap, subst, ◌∙◌, arith}
use Rattle.std.proofs.lemmas.List.{map-append, length-map}
use Rattle.std.proofs.Math.ListN.{get_or-map}
use Rattle.std.proofs.lemmas.Option.{slice_get-map}
use Rattle.column_order.specs.Columns.{ColumnList}
use Rattle.page_rows.specs.Written.{written}
use Rattle.sparse_rows.specs.Entries.{entry_of}
use Rattle.echelon.specs.Lists.{entries_of}
use Rattle.table_model.specs.MonomialWords.{words_of_row}
use Rattle.table_model.specs.ReducedRows.{IsUnbroken, BreaksFirst}
use Rattle.share_model.specs.Checked.{Checked}
use Rattle.share_merge.specs.Turns.{Turn, HasIndex, HasAll, IsLeastMissing, counted, first_rows, turns_of, row_where, turn_row, turn_words, MergesWhole, BreaksAtRow}
use Rattle.merge_runs.specs.Plain.{plain_of}

-- the residues of a row are its entries
pub written_entry : {E : Type 0} (value : E → ℕ) (p : List (ℕ × E)) (n : ℕ)
    → entry_of (λ k. k) (λ v. v) (written value p) n ≡ entry_of (λ k. k) value p n
written_entry value [] n = refl
written_entry value (e ∷ es) n = ap (λ x. cond (eqb e.0 n) (value e.1) 0 + x) (written_entry value es n)

module _ {R E : Type 0} (value : E → ℕ) where
  abbrev plains : List (Checked R E) → List (Checked ℕ ℕ)
  plains list = map (plain_of value) list

  -- a turn with residues for elements
  abbrev plain_turn : Turn R E → Turn ℕ ℕ
  plain_turn t = record { share = plain_of value t.share; row = t.row }

  -- the indices are the same
  pub index_plain : (list : List (Checked R E)) (index : ℕ) → HasIndex list index → HasIndex (plains list) index
  index_plain list index (k, c, below, at, is) =
      (k, plain_of value c, rw length-map below, get_or-map (plain_of value) list k c ∙ ap (plain_of value) at, is)

  pub plain_index : (list : List (Checked R E)) (index : ℕ) → HasIndex (plains list) index → HasIndex list index
  plain_index [] index (k, c, below, at, is) = absurd (omega arith)
  plain_index (d ∷ ds) index (zero, c, below, at, is) = (0, d, omega arith, refl, ap (λ (e : Checked ℕ ℕ). e.id.index) at ∙ is)
  plain_index (d ∷ ds) index (suc k, c, below, at, is) =
      let later = plain_index ds index (k, c, omega arith, at, is) in
      (suc later.0, later.1, omega (arith, later.2), later.3, later.4)

  filter-plain : (index : ℕ) (list : List (Checked R E))
      → filter (λ d. not (nat_eq index d.id.index)) (plains list) ≡ plains (filter (λ d. not (nat_eq index d.id.index)) list)
  filter-plain index [] = refl
  filter-plain index (c ∷ cs) = at (not (nat_eq index c.id.index)) (filter-plain index cs)
    where
      at : (b : Bool) → filter (λ d. not (nat_eq index d.id.index)) (plains cs) ≡ plains (filter (λ d. not (nat_eq index d.id.index)) cs)
          → cond b (plain_of value c ∷ filter (λ d. not (nat_eq index d.id.index)) (plains cs)) (filter (λ d. not (nat_eq index d.id.index)) (plains cs))
          ≡ plains (cond b (c ∷ filter (λ d. not (nat_eq index d.id.index)) cs) (filter (λ d. not (nat_eq index d.id.index)) cs))
      at true others = ap (λ ds. plain_of value c ∷ ds) others
      at false others = others

  counted-plain : (list : List (Checked R E)) → counted (plains list) ≡ plains (counted list)
  counted-plain [] = refl
  counted-plain (c ∷ cs) =
      ap (λ ds. plain_of value c ∷ ds)
      (ap (filter (λ (d : Checked ℕ ℕ). not (nat_eq c.id.index d.id.index))) (counted-plain cs) ∙ filter-plain c.id.index (counted cs))

  first_rows-plain : (c : Checked R E) (n : ℕ) → first_rows (plain_of value c) n ≡ map plain_turn (first_rows c n)
  first_rows-plain c zero = refl
  first_rows-plain c (suc n) =
      let last : List (Turn R E) = record { share = c; row = n } ∷ [] in
      ap (λ ts. ts ++ map plain_turn last) (first_rows-plain c n) ∙ sym (map-append plain_turn (first_rows c n) last)

  rows-plain : (list : List (Checked R E))
      → flat_map (λ c. first_rows c (length c.list.rows)) (plains list) ≡ map plain_turn (flat_map (λ c. first_rows c (length c.list.rows)) list)
  rows-plain [] = refl
  rows-plain (c ∷ cs) =
      let rows : List (Turn R E) = first_rows c (length c.list.rows) in
      let others : List (Turn R E) = flat_map (λ (d : Checked R E). first_rows d (length d.list.rows)) cs in
      let first : first_rows (plain_of value c) (length (map (written value) c.list.rows)) ≡ map plain_turn rows =
      ap (first_rows (plain_of value c)) (length-map c.list.rows (written value)) ∙ first_rows-plain c (length c.list.rows) in
      (λ i. first i ++ rows-plain cs i) ∙ sym (map-append plain_turn rows others)

  -- the turns are the same
  turns-plain : (list : List (Checked R E)) → turns_of (plains list) ≡ map plain_turn (turns_of list)
  turns-plain list = ap (flat_map (λ (c : Checked ℕ ℕ). first_rows c (length c.list.rows))) (counted-plain list) ∙ rows-plain (counted list)

  row_where-plain : (found : Option (Turn R E)) → row_where (option_map plain_turn found) ≡ written value (row_where found)
  row_where-plain None = refl
  row_where-plain (Some t) = get_or-map (written value) t.share.list.rows t.row []

  turn_row-plain : (list : List (Checked R E)) (t : ℕ) → turn_row (plains list) t ≡ written value (turn_row list t)
  turn_row-plain list t =
      ap (λ (ts : List (Turn ℕ ℕ)). row_where (slice_get ts t)) (turns-plain list)
      ∙ ap row_where (slice_get-map plain_turn (turns_of list) t) ∙ row_where-plain (slice_get (turns_of list) t)

  -- so are their words
  pub turn_words-plain : (columns : ColumnList) (list : List (Checked R E)) → turn_words value columns list ≡ turn_words (λ v. v) columns (plains list)
  turn_words-plain columns list = λ i t. words_of_row columns.list (same t i)
    where
      same : (t : ℕ) → entries_of value (turn_row list t) ≡ entries_of (λ v. v) (turn_row (plains list) t)
      same t = λ i n. at n i
        where
          at : (n : ℕ) → entries_of value (turn_row list t) n ≡ entries_of (λ v. v) (turn_row (plains list) t) n
          at n = sym (written_entry value (turn_row list t) n) ∙ ap (λ (row : List (ℕ × ℕ)). entries_of (λ v. v) row n) (sym (turn_row-plain list t))

  pub all_plain : (shares : ℕ) (list : List (Checked R E)) → HasAll shares list → HasAll shares (plains list)
  all_plain shares list all index below = index_plain list index (all index below)

  pub missing_plain : (shares : ℕ) (list : List (Checked R E)) (index : ℕ) → IsLeastMissing shares list index → IsLeastMissing shares (plains list) index
  missing_plain shares list index is = record {
    inside = is.inside;
    missing = λ has. is.missing (plain_index list index has);
    earlier = λ k below. index_plain list k (is.earlier k below);
  }

  pub whole_plain : (m : ℕ) (columns : ColumnList) (list : List (Checked R E)) → MergesWhole m value columns list
      → MergesWhole m (λ v. v) columns (plains list)
  whole_plain m columns list whole =
      let turns : length (turns_of (plains list)) ≡ length (turns_of list) = ap length (turns-plain list) ∙ length-map (turns_of list) plain_turn in
      subst (IsUnbroken m columns (turn_words (λ v. v) columns (plains list))) (sym turns)
      (subst (λ sums. IsUnbroken m columns sums (length (turns_of list))) (turn_words-plain columns list) whole)

  pub breaks_plain : (m : ℕ) (columns : ColumnList) (list : List (Checked R E)) (residue index row : ℕ)
      → BreaksAtRow m value columns list residue index row → BreaksAtRow m (λ v. v) columns (plains list) residue index row
  breaks_plain m columns list residue index row is = record {
    place = is.place;
    turn = plain_turn is.turn;
    is_turn = ap (λ (ts : List (Turn ℕ ℕ)). slice_get ts is.place) (turns-plain list) ∙ slice_get-map plain_turn (turns_of list) is.place
        ∙ ap (option_map plain_turn) is.is_turn;
    of_share = is.of_share;
    of_row = is.of_row;
    breaks = subst (λ sums. BreaksFirst m columns sums is.place residue) (turn_words-plain columns list) is.breaks;
  }
