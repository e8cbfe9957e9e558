-- The finished rows of all turns, with combinations of listed relations: they are complete.
use Rattle.std.specs.Prelude.{◌≡◌, ◌≢◌, ℕ, zero, suc, ◌%◌, ◌<◌, nat_eq, cond, Bool, Option, Some, None, List, [], ◌∷◌, length, get_or, All}
use Rattle.std.proofs.Common.{refl, sym, ◌∙◌, ap, subst, inl, inr, arith}
use Rattle.std.specs.List.{Contains}
use Rattle.std.proofs.lemmas.Bool.{cases_eq, eq-eqb, ne_eqb}
use Rattle.std.proofs.lemmas.List.Elements.{All-contains}
use Rattle.std.proofs.lemmas.Option.{slice_get_within}
use Rattle.zeta_model.specs.Sums.{Sum}
use Rattle.linear_model.specs.Rows.{combination, InSpan}
use Rattle.linear_model.proofs.Spans.{span_through}
use Rattle.column_order.specs.Columns.{ColumnList}
use Rattle.echelon.specs.Lists.{entries_of, row_at, lead_at}
use Rattle.echelon.specs.States.{Recorded, IsRowList}
use Rattle.echelon.specs.Finishes.{SameSpanOf, AreRecorded}
use Rattle.lyndon_polys.specs.Tables.{RingTable}
use Rattle.table_model.specs.MonomialWords.{words_of_row, sum_combination}
use Rattle.table_model.specs.ListedSpan.{values_of, count_of}
use Rattle.table_model.specs.ReducedRows.{IsReducedRows}
use Rattle.table_model.specs.Complete.{Evaluates}
use Rattle.table_model.proofs.RowWords.{same-words_of_row, words_of_row-combination}
use Rattle.table_model.proofs.SumSpans.{sum_combination-combination, same-sum_combination}
use Rattle.share_model.specs.Checked.{Checked}
use Rattle.share_model.specs.Dealing.{IsShareResult}
use Rattle.share_model.proofs.ShareResults.{results_merge}
use Rattle.share_build.proofs.OfferedSums.{reduced_rows_of}
use Rattle.share_merge.specs.declared.places.RowPlace.{RowPlace}
use Rattle.share_merge.specs.Turns.{AreSharesOf, HasIndex, HasAll, counted, turns_of, turn_words, row_where}
use Rattle.share_merge.specs.Inner.{IsOwn, ArePlaces, turn_rows, turn_combinations, IsSumOfTurns, HasOffered, IsExpanded, AreExpanded, IsMerged}
use Rattle.share_merge.proofs.CountedShares.{counted_has}
use Rattle.share_merge.proofs.RowPlaces.{places_count}
use Rattle.share_merge.proofs.TurnRows.{IsSound, result, turn_over, turn_evaluates}
use Rattle.share_merge.proofs.TurnCounts.{turn_of_row, counted_sound}
use Rattle.share_merge.proofs.OfferedRows.{words-within, sum_of_sums}

module _ {R E : Type 0} where
  -- the first share with an index
  found : List (Checked R E) → ℕ → Option (Checked R E)
  found [] i = None
  found (c ∷ cs) i = cond (nat_eq c.id.index i) (Some c) (found cs i)

  later : (c : Checked R E) (cs : List (Checked R E)) (i : ℕ) → c.id.index ≢ i → HasIndex (c ∷ cs) i → HasIndex cs i
  later c cs i ne (zero, x, l, at, e) = absurd (ne (ap (λ (d : Checked R E). d.id.index) at ∙ e))
  later c cs i ne (suc k, x, l, at, e) = (k, x, omega (arith, l), at, e)

  record IsFound (cs : List (Checked R E)) (i : ℕ) : Type 0 where
    pub share : Checked R E
    pub stands : Contains cs share
    pub index : share.id.index ≡ i
    pub is : found cs i ≡ Some share

  found_is : (cs : List (Checked R E)) (i : ℕ) → HasIndex cs i → IsFound cs i
  unfolding found
  found_is [] i (k, x, l, at, e) = absurd (omega (arith, l))
  found_is (c ∷ cs) i h = elim (cases_eq c.id.index i) [
    | inl e ↦ record {
      share = c;
      stands = (0, omega arith, refl);
      index = e;
      is = ap (λ b. cond b (Some c) (found cs i)) (eq-eqb c.id.index i e);
    }
    | inr ne ↦
        let r = found_is cs i (later c cs i ne h) in
        let s = r.stands in
        record {
          share = r.share;
          stands = (suc s.0, omega (arith, s.1), s.2);
          index = r.index;
          is = ap (λ b. cond b (Some c) (found cs i)) (ne_eqb c.id.index i ne) ∙ r.is;
        }
  ]

  abbrev count_where : Option (Checked R E) → ℕ
  count_where None = 0
  count_where (Some c) = length c.list.rows

  abbrev lead_where : Option (Checked R E) → ℕ → ℕ
  lead_where None = λ i. 0
  lead_where (Some c) = lead_at c.list.rows

  abbrev rows_where : (E → ℕ) → Option (Checked R E) → ℕ → ℕ → ℕ
  rows_where value None = λ i q. 0
  rows_where value (Some c) = row_at value c.list.rows

  abbrev combinations_where : (E → ℕ) → Option (Checked R E) → ℕ → ℕ → ℕ
  combinations_where value None = λ i q. 0
  combinations_where value (Some c) = row_at value c.combinations

module _ {R E : Type 0} (modulus : R → ℕ) (has : R → E → Bool) (value : R → E → ℕ) (zero : E) (table : RingTable R) (shares : ℕ)
    (list : List (Checked R E)) (all : AreSharesOf table shares list) (places : List RowPlace)
    (are : ArePlaces modulus has value list (turns_of list) places) (own : All (IsOwn modulus has value) (counted list)) (e : Recorded R E)
    (h : HasOffered (modulus table.ring) (has table.ring) (value table.ring) zero table list (length places) e) where
  abbrev m : ℕ
  m = modulus table.ring

  abbrev columns : ColumnList
  columns = table.columns

  abbrev residue : E → ℕ
  residue = value table.ring

  abbrev turns : ℕ
  turns = length (turns_of list)

  count : length places ≡ length (turns_of list)
  count = places_count modulus has value list (turns_of list) places are

  module _ (rows combinations : List (List (ℕ × E))) (is_list : IsRowList (modulus table.ring) (has table.ring) (value table.ring) zero e.core.columns rows)
      (span : SameSpanOf (modulus table.ring) (value table.ring) e.core.rows rows)
      (recorded : AreRecorded (modulus table.ring) (has table.ring) (value table.ring) e.core.rows e.combinations rows combinations) where
    -- each row is the value of its combination of turns
    pub sums : (i : ℕ) → i < length rows
        → IsSumOfTurns (modulus table.ring) (value table.ring) list (length places) (get_or rows i []) (get_or combinations i [])
    sums i l = sum_of_sums m residue list (length places) e.core.rows e.combinations h.count h.combined (recorded.factors i) (get_or rows i [])
        (get_or combinations i []) (recorded.sums i l) (recorded.combined i (omega (arith, l, recorded.count)))

    -- they are the reduced rows of the words of the turns
    reduced : IsReducedRows (modulus table.ring) table.columns (turn_words (value table.ring) table.columns list) (length places) (length rows) (lead_at rows)
        (row_at (value table.ring) rows)
    reduced = reduced_rows_of m residue columns h.is_table h.converts (turn_words residue columns list)
        (words-within m (has table.ring) residue zero table list h.is_table) (length places) e.core.rows rows h.span is_list.reduced span

    -- each row of a turn is in their span
    turn_in_span : (t : ℕ) → t < length places
        → InSpan (modulus table.ring) (length rows) (row_at (value table.ring) rows) (turn_rows (value table.ring) list t)
    turn_in_span t l =
        let both = h.span (turn_rows residue list) (λ k lk. record {
          over = turn_over modulus has value table shares list places all are k lk;
          words = λ w. refl;
        }) in
        span_through m (length e.core.rows) (length rows) (row_at residue e.core.rows) (row_at residue rows) span.0 (turn_rows residue list t) (both.1 t l)

    module _ (expanded : List (List (ℕ × E)))
        (made : AreExpanded (modulus table.ring) (has table.ring) (value table.ring) zero table.columns list combinations expanded) where
      -- what the expanded combination gives
      evaluates : (i : ℕ) → i < length rows
          → Evaluates (modulus table.ring) table.columns (row_at (value table.ring) rows i) (row_at (value table.ring) expanded i)
      evaluates i l w =
          let s = sums i l in
          let d : IsExpanded m (has table.ring) residue zero columns list (get_or combinations i []) (get_or expanded i []) =
          made.each i (omega (arith, l, made.count, recorded.count)) in
          let c : ℕ → ℕ = row_at residue combinations i in
          let values : ℕ → Sum = values_of m columns in
          same-words_of_row m columns (row_at residue rows i) (combination turns (turn_rows residue list) c) s.evaluates w
          ∙ ap (λ (f : Sum). f w % m) (words_of_row-combination columns.list turns (turn_rows residue list) c)
          ∙ same-sum_combination m turns (λ t. words_of_row columns.list (turn_rows residue list t))
          (λ t. sum_combination (count_of columns) values (turn_combinations residue list t)) c c (λ t lt. refl)
          (λ t lt. turn_evaluates modulus has value table shares list places all are t (omega (arith, lt, count))) w
          ∙ ap (λ (f : Sum). f w % m) (sum_combination-combination turns (count_of columns) c (turn_combinations residue list) values)
          ∙ same-sum_combination m (count_of columns) values values (combination turns (turn_combinations residue list) c) (row_at residue expanded i)
          (λ n ln. sym (d.sum n)) (λ n ln v. refl) w

      module _ (has_all : HasAll shares list) (some : 0 < shares) where
        with_index : (index : ℕ) → index < shares → IsFound (counted list) index
        with_index index l = found_is (counted list) index (counted_has list index (has_all index l))

        sound_with : (index : ℕ) (f : IsFound (counted list) index) → IsSound modulus has value table shares f.share
        sound_with index f = All-contains (IsSound modulus has value table shares) (counted list) f.share
            (λ k d l. counted_sound modulus has value table shares list all own k d l) f.stands

        abbrev at : ℕ → Option (Checked R E)
        at index = found (counted list) index

        results : (index : ℕ) → index < shares → IsShareResult (modulus table.ring) table.columns index shares (count_where (found (counted list) index))
            (lead_where (found (counted list) index)) (rows_where (value table.ring) (found (counted list) index))
            (combinations_where (value table.ring) (found (counted list) index))
        results index l =
            let f = with_index index l in
            let c = f.share in
            let k = sound_with index f in
            let is_of = k.is_of in
            subst (λ o. IsShareResult m columns index shares (count_where o) (lead_where o) (rows_where residue o) (combinations_where residue o)) (sym f.is)
            (subst (λ j. IsShareResult m columns j shares (length c.list.rows) (lead_at c.list.rows) (row_at residue c.list.rows)
            (row_at residue c.combinations))
            f.index
            (subst (λ j. IsShareResult m columns c.id.index j (length c.list.rows) (lead_at c.list.rows) (row_at residue c.list.rows)
            (row_at residue c.combinations)) is_of.of (result modulus has value table shares c k)))

        spans : (index i : ℕ) → index < shares → i < count_where (found (counted list) index)
            → InSpan (modulus table.ring) (length rows) (row_at (value table.ring) rows) (rows_where (value table.ring) (found (counted list) index) i)
        spans index i l li =
            let f = with_index index l in
            let c = f.share in
            let inside : i < length c.list.rows = subst (λ o. i < count_where o) f.is li in
            let (t, is) = turn_of_row (counted list) c f.stands i inside in
            let lt : t < length places = omega (arith, count, slice_get_within (turns_of list) t (record { share = c; row = i }) is) in
            subst (λ o. InSpan m (length rows) (row_at residue rows) (rows_where residue o i)) (sym f.is)
            (subst (λ es. InSpan m (length rows) (row_at residue rows) (entries_of residue es)) (ap row_where is) (turn_in_span t lt))

        pub merged : IsMerged (modulus table.ring) (has table.ring) (value table.ring) zero table.columns rows expanded
        merged = record {
          list = subst (λ n. IsRowList m (has table.ring) residue zero n rows) h.columns is_list;
          listed = record {
            count = made.count ∙ recorded.count;
            each = λ i l. let d = made.each i l in d.listed;
          };
          complete = results_merge m columns h.is_table h.converts shares some (λ index. count_where (at index)) (λ index. lead_where (at index))
              (λ index. rows_where residue (at index)) (λ index. combinations_where residue (at index)) results (length rows) (lead_at rows)
              (row_at residue rows) (row_at residue expanded) is_list.reduced (let r = reduced in r.over) evaluates spans;
        }
