-- The rows of the turns and their combinations: what is known of them, since each is a row of a checked share of the table.
use Rattle.std.specs.Prelude.{◌≡◌, ℕ, ◌<◌, Bool, List, [], length, get_or}
use Rattle.std.proofs.Common.{sym, ◌∙◌, ap, subst, arith}
use Rattle.std.proofs.lemmas.Option.{slice_get_within, get_or_from_slice_get}
use Rattle.sparse_rows.specs.Entries.{IsBelow, AllIn}
use Rattle.echelon.specs.Lists.{entries_of, row_at, lead_at}
use Rattle.echelon.specs.States.{RowList}
use Rattle.lyndon_polys.specs.Tables.{RingTable}
use Rattle.table_model.specs.Conversion.{IsOver}
use Rattle.table_model.specs.ListedSpan.{count_of}
use Rattle.table_model.specs.Complete.{Evaluates}
use Rattle.file_model.proofs.ParamColumns.{relations_are}
use Rattle.share_model.specs.Checked.{Checked, IsChecked}
use Rattle.share_model.specs.Dealing.{IsShareResult}
use Rattle.share_merge.specs.declared.places.RowPlace.{RowPlace}
use Rattle.share_merge.specs.Turns.{Turn, IsShareOf, AreSharesOf, turns_of, turn_row, row_where}
use Rattle.share_merge.specs.Inner.{IsOwn, IsPlaceOf, ArePlaces, combination_where, turn_combination}
use Rattle.share_merge.proofs.RowPlaces.{IsTurnAt, turn_at, row_is, share_is}

module _ {R E : Type 0} (modulus : R → ℕ) (has : R → E → Bool) (value : R → E → ℕ) (table : RingTable R) where
  -- the share is of the table, and checked over the table's ring
  pub record IsSound (shares : ℕ) (c : Checked R E) : Type 0 where
    pub is_of : IsShareOf table shares c
    pub checked : IsChecked (modulus table.ring) (has table.ring) (value table.ring) c

  pub sound : (shares : ℕ) (c : Checked R E) → IsShareOf table shares c → IsOwn modulus has value c → IsSound shares c
  sound shares c is_of own = record { is_of = is_of; checked = subst (λ r. IsChecked (modulus r) (has r) (value r) c) is_of.ring own }

  -- so is the share of each turn
  pub turn_sound : (shares : ℕ) (list : List (Checked R E)) (turn : Turn R E) (p : RowPlace) → AreSharesOf table shares list
      → IsPlaceOf modulus has value list turn p → IsSound shares turn.share
  turn_sound shares list turn p all is =
      let at : get_or list p.share turn.share ≡ turn.share = get_or_from_slice_get list p.share turn.share turn.share is.share in
      sound shares turn.share
      (subst (IsShareOf table shares) at (all p.share turn.share (slice_get_within list p.share turn.share is.share))) is.checked

  module _ (shares : ℕ) (c : Checked R E) (h : IsSound shares c) where
    pub result : IsShareResult (modulus table.ring) table.columns c.id.index c.id.of (length c.list.rows) (lead_at c.list.rows)
        (row_at (value table.ring) c.list.rows) (row_at (value table.ring) c.combinations)
    result = let is_of = h.is_of in let checked = h.checked in checked.result table.columns is_of.params

    module _ (i : ℕ) (inside : i < length c.list.rows) where
      pub row_over : IsOver (modulus table.ring) table.columns (row_at (value table.ring) c.list.rows i)
      row_over = let r = result in r.over i inside

      pub row_evaluates : Evaluates (modulus table.ring) table.columns (row_at (value table.ring) c.list.rows i)
          (row_at (value table.ring) c.combinations i)
      row_evaluates = let r = result in let own = r.all i inside in own.evaluates

      in_list : i < length c.combinations
      in_list = let checked = h.checked in omega (arith, inside, checked.count)

      pub combination_in : AllIn (has table.ring) (get_or c.combinations i [])
      combination_in = let checked = h.checked in checked.in_ring i in_list

      pub combination_below : IsBelow (λ k. k) (count_of table.columns) (get_or c.combinations i [])
      combination_below =
          let is_of = h.is_of in
          let checked = h.checked in
          subst (λ n. IsBelow (λ k. k) n (get_or c.combinations i [])) (sym (relations_are c.params table.columns is_of.params)) (checked.below i in_list)

  module _ (shares : ℕ) (list : List (Checked R E)) (places : List RowPlace) (all : AreSharesOf table shares list)
      (are : ArePlaces modulus has value list (turns_of list) places) (t : ℕ) (l : t < length places) where
    abbrev first : RowPlace
    first = record { share = 0; row = 0 }

    at_place : IsTurnAt modulus has value list t (get_or places t (record { share = 0; row = 0 }))
    at_place = turn_at modulus has value list (turns_of list) places are t first l

    known : IsSound shares (at_place.turn.share)
    known = let h = at_place in turn_sound shares list h.turn (get_or places t first) all h.is

    pub turn_combination_in : AllIn (has table.ring) (turn_combination list t)
    turn_combination_in =
        let h = at_place in
        let k = h.is in
        let u = h.turn in
        subst (AllIn (has table.ring)) (sym (ap combination_where h.at)) (combination_in shares u.share known u.row k.inside)

    pub turn_combination_below : IsBelow (λ k. k) (count_of table.columns) (turn_combination list t)
    turn_combination_below =
        let h = at_place in
        let k = h.is in
        let u = h.turn in
        subst (IsBelow (λ k. k) (count_of table.columns)) (sym (ap combination_where h.at)) (combination_below shares u.share known u.row k.inside)

    pub turn_over : IsOver (modulus table.ring) table.columns (entries_of (value table.ring) (turn_row list t))
    turn_over =
        let h = at_place in
        let k = h.is in
        let u = h.turn in
        subst (λ es. IsOver (modulus table.ring) table.columns (entries_of (value table.ring) es)) (sym (ap row_where h.at))
        (row_over shares u.share known u.row k.inside)

    pub turn_evaluates : Evaluates (modulus table.ring) table.columns (entries_of (value table.ring) (turn_row list t))
        (entries_of (value table.ring) (turn_combination list t))
    turn_evaluates =
        let h = at_place in
        let k = h.is in
        let u = h.turn in
        subst (λ es. Evaluates (modulus table.ring) table.columns (entries_of (value table.ring) es) (entries_of (value table.ring) (turn_combination list t)))
        (sym (ap row_where h.at))
        (subst (λ es. Evaluates (modulus table.ring) table.columns (row_at (value table.ring) u.share.list.rows u.row) (entries_of (value table.ring) es))
        (sym (ap combination_where h.at)) (row_evaluates shares u.share known u.row k.inside))

    -- what is read at the place is the row of the turn
    pub read_row : (x : Checked R E) → x ≡ get_or list (get_or places t (record { share = 0; row = 0 })).share x → (rows : RowList R E) → rows ≡ x.list
        → (row : List (ℕ × E)) → row ≡ get_or rows.rows (get_or places t (record { share = 0; row = 0 })).row [] → row ≡ turn_row list t
    read_row x own rows same row e =
        let p : RowPlace = get_or places t first in
        e ∙ ap (λ (l : RowList R E). get_or l.rows p.row []) same ∙ row_is modulus has value list t p at_place x own

    -- in the table's ring
    pub read_ring : (x : Checked R E) → x ≡ get_or list (get_or places t (record { share = 0; row = 0 })).share x → (rows : RowList R E) → rows ≡ x.list
        → rows.ring ≡ table.ring
    read_ring x own rows same =
        let p : RowPlace = get_or places t first in
        let k = known in
        let of = k.is_of in
        ap (λ (l : RowList R E). l.ring) same ∙ ap (λ (c : Checked R E). c.list.ring) (share_is modulus has value list t p at_place x own) ∙ of.ring
