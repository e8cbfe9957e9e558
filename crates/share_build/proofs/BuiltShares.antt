-- The finished rows of all relations of a share: they are a share, and a result of it.
use Rattle.std.specs.Prelude.{◌≡◌, ℕ, ◌+◌, ◌*◌, ◌%◌, ◌<◌, ◌≤◌, Bool, true, List, [], ◌∷◌, length, get_or}
use Rattle.std.proofs.Common.{refl, sym, ◌∙◌, ap, subst, inl, inr, arith, mod-eq_of_lt}
use Rattle.std.proofs.lemmas.Bool.{cases_lt}
use Rattle.std.proofs.lemmas.List.{get_or_past}
use Rattle.std.proofs.lemmas.List.Elements.{recursion_from_All}
use Rattle.std.proofs.lemmas.Option.{slice_get-get_or}
use Rattle.zeta_model.specs.Sums.{Sum}
use Rattle.column_order.specs.Columns.{ColumnList, column_count}
use Rattle.echelon.specs.Lists.{entries_of, lead_of, lead_at, row_at}
use Rattle.echelon.specs.States.{Recorded}
use Rattle.lyndon_polys.specs.Tables.{RingTable}
use Rattle.page_codec.specs.declared.params.Params.{Params}
use Rattle.page_codec.specs.declared.parts.FinalEntry.{FinalEntry}
use Rattle.page_codec.specs.Bounds.{IsParams, IsRowData, IsCombData, IsFinalEntry}
use Rattle.page_codec.specs.Places.{AreBelow, FinalInTable}
use Rattle.page_rows.specs.Written.{written}
use Rattle.page_rows.proofs.Writing.{entry_of-written}
use Rattle.table_model.specs.Conversion.{Converts}
use Rattle.table_model.specs.ListedSpan.{count_of, relation_count}
use Rattle.table_model.specs.Complete.{Evaluates}
use Rattle.table_model.specs.ReducedRows.{IsReducedRows, IsUnbroken}
use Rattle.file_model.specs.TableOf.{IsTableOf}
use Rattle.file_model.specs.Pages.{pairs_of, IsPairs}
use Rattle.file_model.specs.FinalRows.{no_entry}
use Rattle.file_model.proofs.ParamColumns.{same_columns, columns_are, relations_are}
use Rattle.file_model.proofs.AcceptedNumbers.{counted_few}
use Rattle.share_model.specs.declared.share.ShareId.{ShareId}
use Rattle.share_model.specs.declared.share.Share.{Share}
use Rattle.share_model.specs.Dealing.{InShare, share_values, share_size, IsRowOfShare, IsShareResult}
use Rattle.share_model.specs.Shares.{IsShareId, IsShare, IsResult, share_row, share_combination, share_lead}
use Rattle.share_model.proofs.Numbers.{dealt, size_below}
use Rattle.share_model.proofs.ShareResults.{reduced_rows_are_result}
use Rattle.share_build.specs.Refusals.{GoesThrough}
use Rattle.share_build.specs.Inner.{IsNoNumber, IsCombinedOf, HasOffered, IsFinalEntryOf, IsFinish}
use Rattle.share_build.proofs.OfferedSums.{reduced_rows_of}
use Rattle.share_build.proofs.OfferSteps.{sums-within}
use Rattle.share_build.proofs.KeptCombinations.{combined_sum}
use Rattle.share_build.proofs.CountedPlaces.{forward_few}
use Rattle.share_build.proofs.ShareEntries.{written_pairs, evaluates_of, row_is_data, combination_is_data}

lead_of-written : {E : Type 0} (value : E → ℕ) (row : List (ℕ × E)) → lead_of row ≡ lead_of (written value row)
lead_of-written value [] = refl
lead_of-written value (e ∷ es) = refl

module _ {R E : Type 0} (params : Params) (fits : IsParams params) (id : ShareId) (is_id : IsShareId id) (has : E → Bool) (value : E → ℕ) (zero : E)
    (has_zero : has zero ≡ true) (value_zero : value zero ≡ 0)
    (value_injective : (a b : E) → has a ≡ true → has b ≡ true → value a ≡ value b → a ≡ b)
    (value_below : (a : E) → has a ≡ true → value a < params.modulus) (table : RingTable R) (of : IsTableOf params table.columns) (e : Recorded R E)
    (h : HasOffered params.modulus has value zero table id.index id.of (share_size table.columns id.index id.of) e) (entries : List FinalEntry)
    (f : IsFinish params.modulus has value zero e.core.columns e.core.rows e.combinations entries) where
  abbrev m : ℕ
  m = params.modulus

  abbrev columns : ColumnList
  columns = table.columns

  abbrev sums : ℕ → Sum
  sums = share_values params.modulus table.columns id.index id.of

  abbrev size : ℕ
  size = share_size table.columns id.index id.of

  abbrev made : Share
  made = record { params = params; id = id; rows = entries }

  big : 2 < params.modulus
  big = let t = of.table in t.modulus

  -- the rows are the reduced rows of the relations of the share
  reduced : IsReducedRows params.modulus table.columns (share_values params.modulus table.columns id.index id.of)
      (share_size table.columns id.index id.of) (length f.rows) (lead_at f.rows) (row_at value f.rows)
  reduced = let list = f.is_list in
      reduced_rows_of m value columns h.is_table h.converts sums (sums-within m has value zero table id.index id.of h.is_table) size e.core.rows f.rows h.span
      list.reduced f.span

  combined : (i : ℕ) → i < length f.rows
      → IsCombinedOf params.modulus value table.columns e.core.numbers (get_or f.rows i []) (get_or f.combinations i [])
  combined i l = let recorded = f.recorded in
      combined_sum m value columns e.core.numbers e.core.rows e.combinations h.count h.combined (recorded.factors i) (get_or f.rows i [])
      (get_or f.combinations i []) (recorded.sums i l) (recorded.combined i (omega (arith, l, recorded.count)))

  count : length entries ≡ length f.rows
  count = let w = f.written in w.count

  entry_at : (i : ℕ) (d : FinalEntry) → i < length entries
      → IsFinalEntryOf zero value (get_or f.rows i []) (get_or f.combinations i []) (get_or entries i d)
  entry_at i d l = let w = f.written in w.each i (get_or entries i d) (slice_get-get_or entries i d l)

  row_pairs : (i : ℕ) → i < length f.rows → IsPairs params.modulus (row_at value f.rows i) (written value (get_or f.rows i []))
  row_pairs i l =
      let list = f.is_list in
      let fit = list.fit i l in
      let b : 2 < params.modulus = big in
      written_pairs m zero has value has_zero value_zero value_injective value_below (get_or f.rows i []) (omega (arith, b)) fit.is_row fit.in_ring

  combination_pairs : (i : ℕ) → i < length entries
      → IsPairs params.modulus (row_at value f.combinations i) (written value (get_or f.combinations i []))
  combination_pairs i l =
      let recorded = f.recorded in
      let there = entry_at i no_entry l in
      let b : 2 < params.modulus = big in
      written_pairs m zero has value has_zero value_zero value_injective value_below (get_or f.combinations i []) (omega (arith, b)) there.is_combination
      (recorded.in_ring i (omega (arith, l, count, recorded.count)))

  -- the numbers are those of relations of the share, and few
  listed : (i : ℕ) → i < length e.core.numbers → get_or e.core.numbers i 0 < relation_count params.weight params.depth
  listed i l =
      let (j, lj, is) = h.of_share i l in
      let inside : id.index + id.of * j < count_of columns = size_below (count_of columns) id.index id.of j is_id.below lj in
      omega (arith, is, inside, relations_are params columns of)

  numbers_few : length e.core.numbers ≤ 2048
  numbers_few =
      let x = h.elimination in
      let b : 2 < params.modulus = big in
      omega (arith, x.count, x.few, forward_few m has value zero e.core.columns e.core.rows (omega (arith, b)) x.fit x.forward)

  is_entry : (i : ℕ) (d : FinalEntry) → i < length entries
      → IsFinalEntry (get_or entries i d) × FinalInTable params (relation_count params.weight params.depth) (get_or entries i d)
  is_entry i d l =
      let li : i < length f.rows = omega (arith, l, count) in
      let there = entry_at i d l in
      let r = reduced in
      let list = r.reduced in
      let x = h.elimination in
      let (row, row_below) = row_is_data params fits columns of (lead_at f.rows i) (row_at value f.rows i) (written value (get_or f.rows i []))
      (row_pairs i li) (list.one i li) (λ j lj. list.before i j li lj) (r.over i li) in
      let (sum, sum_below) = combination_is_data params fits columns of value h.converts e.core.numbers x.rising listed numbers_few (get_or f.rows i [])
      (get_or f.combinations i []) (combined i li) (written value (get_or f.combinations i [])) (combination_pairs i l) (lead_at f.rows i) (list.one i li) in (
        record { row = subst IsRowData (sym there.row_is) row; combination = subst IsCombData (sym there.combination_is) sum },
        record {
          row = subst (AreBelow (column_count params.weight params.depth) m) (sym there.row_is) row_below;
          combination = subst (AreBelow (relation_count params.weight params.depth) m) (sym there.combination_is) sum_below;
        },
      )

  pub is_share : IsShare made
  is_share = record {
    params = fits;
    id = is_id;
    few =
        let r = reduced in
        omega (
          arith,
          count,
          columns_are params columns of,
          counted_few m columns h.is_table sums (sums-within m has value zero table id.index id.of h.is_table)
              h.converts size (length f.rows) (lead_at f.rows, row_at value f.rows, r),
        );
    entries = recursion_from_All IsFinalEntry entries (λ i d l. (is_entry i d l).0);
    in_table = recursion_from_All (FinalInTable params (relation_count params.weight params.depth)) entries (λ i d l. (is_entry i d l).1);
  }

  -- what the share has at each place
  row_is : (i q : ℕ) → row_at value f.rows i q ≡ share_row made i q
  row_is i q = elim (cases_lt i (length entries)) [
    | inl l ↦ let there = entry_at i no_entry l in
        sym (entry_of-written (λ k. k) zero has value (get_or f.rows i []) q) ∙ ap (λ ps. pairs_of ps q) (sym there.row_is)
    | inr past ↦ ap (λ es. entries_of value es q) (get_or_past f.rows i [] (omega (arith, past, count)))
        ∙ sym (ap (λ (x : FinalEntry). pairs_of x.row q) (get_or_past entries i no_entry past))
  ]

  combination_is : (i q : ℕ) → i < length entries → row_at value f.combinations i q ≡ share_combination made i q
  combination_is i q l = let there = entry_at i no_entry l in
      sym (entry_of-written (λ k. k) zero has value (get_or f.combinations i []) q) ∙ ap (λ ps. pairs_of ps q) (sym there.combination_is)

  lead_is : (i : ℕ) → lead_at f.rows i ≡ share_lead made i
  lead_is i = elim (cases_lt i (length entries)) [
    | inl l ↦ let there = entry_at i no_entry l in lead_of-written value (get_or f.rows i []) ∙ ap (λ ps. lead_of ps) (sym there.row_is)
    | inr past ↦ ap (λ es. lead_of es) (get_or_past f.rows i [] (omega (arith, past, count)))
        ∙ sym (ap (λ (x : FinalEntry). lead_of x.row) (get_or_past entries i no_entry past))
  ]

  of_share : (i : ℕ) → i < length entries → IsRowOfShare params.modulus table.columns id.index id.of (share_row made i) (share_combination made i)
  of_share i l =
      let li : i < length f.rows = omega (arith, l, count) in
      let here = combined i li in
      let pairs = combination_pairs i l in
      let b : 2 < params.modulus = big in
      let none : 0 % params.modulus ≡ 0 = mod-eq_of_lt (omega (arith, b)) in
      record {
        evaluates = subst (λ p. Evaluates m columns p (share_combination made i)) (λ z q. row_is i q z)
            (subst (Evaluates m columns (row_at value f.rows i)) (λ z q. combination_is i q l z)
            (evaluates_of m value columns h.is_table h.converts e.core.numbers (get_or f.rows i []) (get_or f.combinations i []) here));
        within = λ n other.
            let no_number : IsNoNumber e.core.numbers n = λ j lj is.
            let (k, lk, at) = h.of_share j lj in
            other (subst (InShare id.index id.of) (sym at ∙ is) (dealt id.index id.of k is_id.below)) in
            sym (combination_is i n l) ∙ sym (entry_of-written (λ k. k) zero has value (get_or f.combinations i []) n) ∙ sym (pairs.residues n)
            ∙ here.named n no_number ∙ none;
      }

  pub is_result : IsResult made
  is_result others are =
      let rows = subst (λ k. IsReducedRows m columns sums size k (share_lead made) (share_row made)) (sym count)
      (subst (λ x. IsReducedRows m columns sums size (length f.rows) x (share_row made)) (λ z i. lead_is i z)
      (subst (IsReducedRows m columns sums size (length f.rows) (lead_at f.rows)) (λ z i q. row_is i q z) reduced)) in
      subst (λ c. IsShareResult m c id.index id.of (length entries) (share_lead made) (share_row made) (share_combination made))
      (same_columns params columns others of are)
      (reduced_rows_are_result m columns h.is_table h.converts id.index id.of is_id.below (length entries) (share_lead made) (share_row made)
      (share_combination made) rows of_share)

  pub goes_through : GoesThrough params id
  goes_through others are = subst (λ c. Converts m c × IsUnbroken m c (share_values m c id.index id.of) (share_size c id.index id.of))
      (same_columns params columns others of are) (h.converts, h.unbroken)
