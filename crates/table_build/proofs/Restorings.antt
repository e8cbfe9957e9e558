-- Rows that are put back from the entries of forward pages.
use Rattle.std.proofs.Common.{◌≡◌, ◌≢◌, ◌⊎◌, ◌↔◌, ℕ, suc, ◌+◌, ◌*◌, ◌%◌, ◌<◌, ◌≤◌, Bool, List, [], ◌∷◌, ◌++◌, length, take, get_or, Option, Some, None, Result, Ok, Err, true, false, refl, sym, ap, subst, ◌∙◌, slice_get, inl, inr, append_assoc, append-nil, take_all, le_refl, arith}
use Rattle.std.specs.Prelude.{IsTrue, IfSome, IfNone, All, is_some, cond, eqb}
use Rattle.std.specs.Ordering.{nat_cmp}
use Rattle.std.specs.List.Sorted.{IsBinarySearchResult}
use Rattle.std.specs.Prelude.{is_ok, MatchResult}
use Rattle.std.proofs.lemmas.List.Sorted.{searched}
use Rattle.std.specs.List.{AllByRecursion, Contains}
use Rattle.std.proofs.Math.Nat.{mod-eq_of_lt, eq-or-lt_of_le}
use Rattle.std.proofs.lemmas.Bool.{cases_lt, cases_eq, ne_eqb}
use Rattle.std.proofs.lemmas.Option.{slice_get_within, slice_get_read, slice_get-get_or, get_or_from_slice_get}
use Rattle.std.proofs.lemmas.List.{map-append, get_or_append_left, take-append-le, get_or_default}
use Rattle.std.proofs.lemmas.List.Elements.{All-head, All-tail, All-cons, All-nil}
use Rattle.zeta_model.specs.Inverses.{HasInverse}
use Rattle.sparse_rows.specs.Entries.{IsRow}
use Rattle.sparse_rows.proofs.EntryLemmas.{entry_of_first}
use Rattle.page_codec.specs.declared.parts.ForwardEntry.{ForwardEntry}
use Rattle.page_codec.specs.declared.parts.ForwardPage.{ForwardPage}
use Rattle.page_codec.specs.declared.page.Page.{Page}
use Rattle.page_codec.specs.declared.page.Page.TheVariants.{Header, Forward, Final, Done}
use Rattle.page_codec.specs.Bounds.{IsRowData, IsCombData, BeginsWith1, IsForwardEntry, AreForward}
use Rattle.page_codec.specs.Places.{AreBelow}
use Rattle.page_rows.specs.Written.{written}
use Rattle.page_rows.proofs.PagePairs.{row-residues, combination-residues}
use Rattle.page_rows.proofs.Writing.{entry_of-written}
use Rattle.echelon.specs.Lists.{entries_of, lead_at, lead_of as lead_of_row}
use Rattle.echelon.specs.Offers.{IsNotForward}
use Rattle.file_model.specs.Pages.{Pairs, pairs_of, numbers_of}
use Rattle.file_model.specs.Resuming.{lead_of, entries_of_page, Suits, AllSuit}
use Rattle.relation_list.specs.declared.names.RelName.{RelName}
use Rattle.lyndon_polys.specs.Tables.{RingTable}
use Rattle.echelon.specs.States.{Elimination}
use Rattle.table_build.specs.Inner.{AreRising, AreRows, AreRowsOf, CanOffer, Stands}
use Rattle.table_build.proofs.OfferedBlocks.{rows_above}
use Rattle.table_build.proofs.GrownLists.{last_one, length-last}

-- ---- what an entry is tested for

-- a residue has an inverse exactly where the ring finds one
pub own_inverse : {E : Type 0} (m v : ℕ) (value : E → ℕ) (o : Option E) → 1 < m → IfSome o (λ b. v * value b % m ≡ 1)
    → IfNone o ((b : ℕ) → v * b % m ≢ 1) → IsTrue (is_some o) ↔ HasInverse m v
own_inverse m v value None big found none = ((λ bad. absurd (let no : false ≡ true = bad in cc)), λ h. absurd (none h.0 (h.1 ∙ mod-eq_of_lt big)))
own_inverse m v value (Some b) big found none = ((λ yes. (value b, found ∙ sym (mod-eq_of_lt big))), λ h. refl)

pub inverse_found : {E : Type 0} (m v : ℕ) (value : E → ℕ) (times : E → E) (one : E) (has : E → Bool) (o : Option E) → value one ≡ 1
    → ((b : E) → has b ≡ true → value (times b) ≡ v * value b % m) → IfSome o (λ b. (has b ≡ true) × (times b ≡ one)) → IfSome o (λ b. v * value b % m ≡ 1)
inverse_found m v value times one has None unit product found = tt
inverse_found m v value times one has (Some b) unit product found = sym (product b found.0) ∙ ap value found.1 ∙ unit

-- among the pairs of a row at a number that is not zero stands the number
stands_there : (low : ℕ) (es : Pairs) → IsRow (λ k. k) 0 low es → (P : ℕ → Type 0) → All (λ e. P e.0) es → (k : ℕ) → pairs_of es k ≢ 0 → P k
stands_there low [] r P all k some = absurd (some refl)
stands_there low (e ∷ es) r P all k some = elim (cases_eq e.0 k) [
  | inl same ↦ subst P same (All-head (λ (x : ℕ × ℕ). P x.0) e es all)
  | inr other ↦ stands_there (e.0 + 1) es r.2 P (All-tail (λ (x : ℕ × ℕ). P x.0) e es all) k
      (λ none. some (ap (λ b. cond b e.1 0 + pairs_of es k) (ne_eqb e.0 k other) ∙ omega (arith, none)))
]

-- and a pair of a row has a residue that is not zero
each_stands : (low : ℕ) (es : Pairs) → IsRow (λ k. k) 0 low es → (P : ℕ → Type 0) → ((k : ℕ) → pairs_of es k ≢ 0 → P k) → All (λ e. P e.0) es
each_stands low [] r P some = All-nil (λ (x : ℕ × ℕ). P x.0)
each_stands low (e ∷ es) r P some =
    let first : pairs_of (e ∷ es) e.0 ≡ e.1 = entry_of_first (λ k. k) 0 (λ v. v) low e es r in
    All-cons (λ (x : ℕ × ℕ). P x.0) e es (some e.0 (λ none. r.1 (sym first ∙ none)))
    (each_stands (e.0 + 1) es r.2 P (λ k here. some k (λ none. here (go k none))))
  where
    go : (k : ℕ) → pairs_of (e ∷ es) k ≡ 0 → pairs_of es k ≡ 0
    go k none = let both : cond (eqb e.0 k) e.1 0 + pairs_of es k ≡ 0 = none in omega arith

-- what a search in rising numbers found
pub found_stands : (numbers : List ℕ) (number : ℕ) (found : Result ℕ ℕ) → AreRising numbers → IsBinarySearchResult (λ y. nat_cmp y number) numbers found
    → IsTrue (is_ok found) ↔ Stands numbers number
found_stands numbers number found rising is = go found (searched numbers number found is order)
  where
    order : (i j : ℕ) → i ≤ j → j < length numbers → get_or numbers i 0 ≤ get_or numbers j 0
    order i j h l = elim (eq-or-lt_of_le h) [
      | inl same ↦ let e = ap (λ k. get_or numbers k 0) same in omega (arith, e)
      | inr less ↦ let below = rising i j less l in omega (arith, below)
    ]

    go : (r : Result ℕ ℕ) → MatchResult r (λ i. (i < length numbers) × (get_or numbers i 0 ≡ number))
        (λ i. (i ≤ length numbers) × ((k : ℕ) → k < i → get_or numbers k 0 < number) × ((k : ℕ) → i ≤ k → k < length numbers → number < get_or numbers k 0))
        → IsTrue (is_ok r) ↔ Stands numbers number
    go (Ok i) h = ((λ yes. (i, h.0, h.1)), λ there. refl)
    go (Err i) h = (
      (λ bad. absurd (let no : false ≡ true = bad in cc)),
      λ there. elim (cases_lt there.0 i) [
        | inl before ↦ let less = h.1 there.0 before in absurd (omega (arith, less, there.2))
        | inr behind ↦ let more = h.2 there.0 behind there.1 in absurd (omega (arith, more, there.2))
      ],
    )

-- a row of a page begins with 1
begins_with_1 : (es : Pairs) → IsRow (λ k. k) 0 0 es → BeginsWith1 es → pairs_of es (lead_of es) ≡ 1
begins_with_1 [] r one = absurd one
begins_with_1 (e ∷ es) r one = entry_of_first (λ k. k) 0 (λ v. v) 0 e es r ∙ one

module _ {E : Type 0} (nought : E) (has : E → Bool) (value : E → ℕ) where
  lead_of-written : (row : List (ℕ × E)) → lead_of (written value row) ≡ lead_of_row row
  lead_of-written [] = refl
  lead_of-written (e ∷ es) = refl

  -- the rows of no entries
  pub no_rows_of : (numbers : List ℕ) (rows : List (List (ℕ × E))) → numbers ≡ [] → rows ≡ [] → AreRowsOf value [] numbers rows
  no_rows_of numbers rows none nor = record {
    numbers_are = none;
    count = ap length nor;
    rows_are = λ i e at. absurd (let bad : None ≡ Some e = at in cc);
  }

  module _ (earlier : List ForwardEntry) (numbers : List ℕ) (rows : List (List (ℕ × E))) (are : AreRowsOf value earlier numbers rows) where
    -- a number is one of those of the entries where it stands in the list
    contained : (k : ℕ) → Stands numbers k → Contains (numbers_of earlier) k
    contained k h = subst (λ ns. Contains ns k) are.numbers_are (h.0, h.1, get_or_default numbers h.0 k 0 h.1 ∙ h.2)

    standing : (k : ℕ) → Contains (numbers_of earlier) k → Stands numbers k
    standing k h = let there = subst (λ ns. Contains ns k) (sym are.numbers_are) h in (there.0, there.1, get_or_default numbers there.0 0 k there.1 ∙ there.2)

    module _ (m : ℕ) (e : ForwardEntry) (row_data : IsRowData e.row) (combination_data : IsCombData e.combination) (high bound : ℕ)
        (row_below : AreBelow high m e.row) (combination_below : AreBelow bound m e.combination) where
      Own : ℕ → Type 0
      Own k = (k ≡ e.number) ⊎ Stands numbers k

      row_is : IsRow (λ k. k) 0 0 e.row
      row_is = (row-residues high m e.row row_data row_below).increasing

      combination_is : IsRow (λ k. k) 0 0 e.combination
      combination_is = (combination-residues bound m e.combination combination_data combination_below).increasing

      -- an entry that suits has no other numbers
      pub others_of : Suits m earlier e → All (λ x. (x.0 ≡ e.number) ⊎ Stands numbers x.0) e.combination
      others_of suits = each_stands 0 e.combination combination_is (λ k. (k ≡ e.number) ⊎ Stands numbers k) (λ k some. elim (cases_eq k e.number) [
        | inl same ↦ inl same
        | inr other ↦ inr (standing k (suits.others k some other))
      ])

      module _ (row : List (ℕ × E)) (row_written : written value row ≡ e.row) where
        at_lead : (i : ℕ) (f : ForwardEntry) → slice_get earlier i ≡ Some f → pairs_of e.row (lead_of f.row) ≡ entries_of value row (lead_at rows i)
        at_lead i f at =
            ap (pairs_of e.row) (ap lead_of (are.rows_are i f at) ∙ lead_of-written (get_or rows i []))
            ∙ ap (λ es. pairs_of es (lead_at rows i)) (sym row_written) ∙ entry_of-written (λ k. k) nought has value row (lead_at rows i)

        own_lead : entries_of value row (lead_of_row row) ≡ 1
        own_lead =
            sym (entry_of-written (λ k. k) nought has value row (lead_of_row row)) ∙ ap (λ k. pairs_of (written value row) k) (sym (lead_of-written row))
            ∙ ap (λ es. pairs_of es (lead_of es)) row_written ∙ begins_with_1 e.row row_is row_data.first

        pub suits_of : (above : ℕ) → ¬ (IsNotForward m value above rows e.number row) → HasInverse m (pairs_of e.combination e.number)
            → All (λ x. (x.0 ≡ e.number) ⊎ Stands numbers x.0) e.combination → Suits m earlier e
        suits_of above forward own others = record {
          begins = begins_with_1 e.row row_is row_data.first;
          clear = λ i f at. at_lead i f at ∙ (elim (cases_eq (entries_of value row (lead_at rows i)) 0) [
            | inl none ↦ none
            | inr some ↦ absurd (forward (inr (inr (inr (i, omega (arith, slice_get_within earlier i f at, are.count), some)))))
          ]);
          own = own;
          others = λ k some other. elim (stands_there 0 e.combination combination_is (λ k. (k ≡ e.number) ⊎ Stands numbers k) others k some) [
            | inl same ↦ absurd (other same)
            | inr there ↦ contained k there
          ];
        }

        -- the row of an entry that suits is a forward row behind the others
        pub forward_of : (above : ℕ) → above ≤ e.number → Suits m earlier e → ¬ (IsNotForward m value above rows e.number row)
        forward_of above low suits (inl less) = absurd (omega (arith, less, low))
        forward_of above low suits (inr (inl none)) =
            let bare : [] ≡ e.row = ap (written value) (sym none) ∙ row_written in subst BeginsWith1 (sym bare) row_data.first
        forward_of above low suits (inr (inr (inl other))) = other own_lead
        forward_of above low suits (inr (inr (inr (i, l, some)))) =
            let d : ForwardEntry = e in
            let at = slice_get-get_or earlier i d (omega (arith, l, are.count)) in
            some (sym (at_lead i (get_or earlier i d) at) ∙ suits.clear i (get_or earlier i d) at)

        -- with the entry, and its row
        pub one_more_row : AreRowsOf value (earlier ++ e ∷ []) (numbers ++ e.number ∷ []) (rows ++ row ∷ [])
        one_more_row = record {
          numbers_are = ap (λ ns. ns ++ e.number ∷ []) are.numbers_are ∙ sym (map-append (λ (x : ForwardEntry). x.number) earlier (e ∷ []));
          count = omega (arith, length-last rows row, length-last earlier e, are.count);
          rows_are = λ i f at. elim (cases_lt i (length earlier)) [
            | inl front ↦
                let there : slice_get earlier i ≡ Some f = slice_get_read earlier (length earlier) i f refl front
                (sym (get_or_from_slice_get (earlier ++ e ∷ []) i f f at) ∙ get_or_append_left earlier (e ∷ []) f i front) in
                are.rows_are i f there ∙ ap (written value) (sym (get_or_append_left rows (row ∷ []) [] i (omega (arith, front, are.count))))
            | inr behind ↦
                let here : i ≡ length earlier = omega (arith, slice_get_within (earlier ++ e ∷ []) i f at, length-last earlier e, behind) in
                let same : e ≡ f = sym (last_one earlier e f) ∙ ap (λ k. get_or (earlier ++ e ∷ []) k f) (sym here)
                ∙ get_or_from_slice_get (earlier ++ e ∷ []) i f f at in
                ap (λ (x : ForwardEntry). x.row) (sym same) ∙ sym row_written
                ∙ ap (written value) (sym (ap (λ k. get_or (rows ++ row ∷ []) k []) (here ∙ sym are.count) ∙ last_one rows row []))
          ];
        }

-- ---- all entries

pub no_entry_suits : (m : ℕ) → AllSuit m []
no_entry_suits m i e at = absurd (let bad : None ≡ Some e = at in cc)

module _ (m : ℕ) (es : List ForwardEntry) (e : ForwardEntry) where
  -- one more suits
  pub suit_push : AllSuit m es → Suits m es e → AllSuit m (es ++ e ∷ [])
  suit_push all here i f at = elim (cases_lt i (length es)) [
    | inl front ↦
        let there : slice_get es i ≡ Some f = slice_get_read es (length es) i f refl front
        (sym (get_or_from_slice_get (es ++ e ∷ []) i f f at) ∙ get_or_append_left es (e ∷ []) f i front) in
        subst (λ xs. Suits m xs f) (sym (take-append-le i es (e ∷ []) (omega (arith, front)))) (all i f there)
    | inr behind ↦
        let last : i ≡ length es = omega (arith, slice_get_within (es ++ e ∷ []) i f at, length-last es e, behind) in
        let same : e ≡ f = sym (last_one es e f) ∙ ap (λ k. get_or (es ++ e ∷ []) k f) (sym last) ∙ get_or_from_slice_get (es ++ e ∷ []) i f f at in
        let front : take i (es ++ e ∷ []) ≡ es = ap (λ k. take k (es ++ e ∷ [])) last ∙ take-append-le (length es) es (e ∷ []) (le_refl _)
        ∙ take_all (length es) es (le_refl _) in
        subst (λ xs. Suits m xs f) (sym front) (subst (Suits m es) same here)
  ]

  -- where all suit, so does each one behind those before it
  pub suit_at : (rest : List ForwardEntry) → AllSuit m (es ++ e ∷ rest) → Suits m es e
  suit_at rest all =
      let there : slice_get (es ++ e ∷ rest) (length es) ≡ Some e = go es in
      subst (λ xs. Suits m xs e) (take-append-le (length es) es (e ∷ rest) (le_refl _) ∙ take_all (length es) es (le_refl _)) (all (length es) e there)
    where
      go : (xs : List ForwardEntry) → slice_get (xs ++ e ∷ rest) (length xs) ≡ Some e
      go [] = refl
      go (x ∷ xs) = go xs

-- ---- the entries of a page, one after the other

-- so many entries were put back, and these are left
pub record Restoring {R E : Type 0} (has : E → Bool) (value : E → ℕ) (m high : ℕ) (bound : ℕ) (entries : List ForwardEntry) (old_numbers : List ℕ)
    (old_rows : List (List (ℕ × E))) (table : RingTable R) (names : List RelName) (ring : R) (e : Elimination R E) (numbers : List ℕ)
    (rows : List (List (ℕ × E))) (rest : List ForwardEntry) : Type 0 where
  pub low : ℕ
  pub within : low ≤ bound
  pub are_forward : AreForward low bound rest
  pub in_table : AllByRecursion (λ x. AreBelow high m x.row × AreBelow (x.number + 1) m x.combination) rest
  pub can : CanOffer table names ring e low
  pub are_rows : AreRows has low numbers rows
  pub front : List ForwardEntry
  pub joined : front ++ rest ≡ entries
  pub taken : (earlier : List ForwardEntry) → AreRowsOf value earlier old_numbers old_rows → AreRowsOf value (earlier ++ front) numbers rows
  pub suit : (earlier : List ForwardEntry) → AreRowsOf value earlier old_numbers old_rows → AllSuit m earlier → AllSuit m (earlier ++ front)

pub can_above : {R E : Type 0} (table : RingTable R) (names : List RelName) (ring : R) (e : Elimination R E) (n k : ℕ) → n ≤ k
    → CanOffer table names ring e n → CanOffer table names ring e k
can_above table names ring e n k l can = record {
  kept_ring = can.kept_ring;
  ring = can.ring;
  columns = can.columns;
  above = omega (arith, l, can.above);
  limits = can.limits;
  names_are = can.names_are;
  few = can.few;
}

module _ {R E : Type 0} (has : E → Bool) (value : E → ℕ) (m high bound : ℕ) (entries : List ForwardEntry) (old_numbers : List ℕ)
    (old_rows : List (List (ℕ × E))) where
  abbrev Goes : RingTable R → List RelName → R → Elimination R E → List ℕ → List (List (ℕ × E)) → List ForwardEntry → Type 0
  Goes table names ring e numbers rows rest = Restoring has value m high bound entries old_numbers old_rows table names ring e numbers rows rest

  module _ (table : RingTable R) (names : List RelName) (ring : R) (e : Elimination R E) where
    -- none was put back yet
    pub restoring_starts : (low : ℕ) → low ≤ bound → AreForward low bound entries
        → AllByRecursion (λ x. AreBelow high m x.row × AreBelow (x.number + 1) m x.combination) entries
        → CanOffer table names ring e low → AreRows has low old_numbers old_rows → Goes table names ring e old_numbers old_rows entries
    restoring_starts low within are in_table can rows = record {
      low = low;
      within = within;
      are_forward = are;
      in_table = in_table;
      can = can;
      are_rows = rows;
      front = [];
      joined = refl;
      taken = λ earlier h. subst (λ es. AreRowsOf value es old_numbers old_rows) (sym (append-nil earlier)) h;
      suit = λ earlier h all. subst (AllSuit m) (sym (append-nil earlier)) all;
    }

    module _ (numbers : List ℕ) (rows : List (List (ℕ × E))) (rest : List ForwardEntry) (so_far : Goes table names ring e numbers rows rest) where
      -- all were put back
      pub restored_can : rest ≡ [] → CanOffer table names ring e bound
      restored_can none = can_above table names ring e so_far.low bound so_far.within so_far.can

      pub restored_rows : rest ≡ [] → AreRows has bound numbers rows
      restored_rows none = rows_above has so_far.low bound numbers rows so_far.within so_far.are_rows

      all_joined : rest ≡ [] → so_far.front ≡ entries
      all_joined none = sym (append-nil so_far.front) ∙ ap (λ es. so_far.front ++ es) (sym none) ∙ so_far.joined

      pub restored_taken : rest ≡ [] → (earlier : List ForwardEntry) → AreRowsOf value earlier old_numbers old_rows
          → AreRowsOf value (earlier ++ entries) numbers rows
      restored_taken none earlier h = subst (λ es. AreRowsOf value (earlier ++ es) numbers rows) (all_joined none) (so_far.taken earlier h)

      pub restored_suit : rest ≡ [] → (earlier : List ForwardEntry) → AreRowsOf value earlier old_numbers old_rows → AllSuit m earlier
          → AllSuit m (earlier ++ entries)
      restored_suit none earlier h all = subst (λ es. AllSuit m (earlier ++ es)) (all_joined none) (so_far.suit earlier h all)

      module _ (entry : ForwardEntry) (behind : List ForwardEntry) (begins : rest ≡ entry ∷ behind) where
        are : AreForward so_far.low bound (entry ∷ behind)
        are = subst (AreForward so_far.low bound) begins so_far.are_forward

        pub entry_is : IsForwardEntry so_far.low bound entry
        entry_is = are.0

        table_of : AllByRecursion (λ x. AreBelow high m x.row × AreBelow (x.number + 1) m x.combination) (entry ∷ behind)
        table_of = subst (AllByRecursion (λ x. AreBelow high m x.row × AreBelow (x.number + 1) m x.combination)) begins so_far.in_table

        pub entry_row : AreBelow high m entry.row
        entry_row = table_of.0.0

        pub entry_combination : AreBelow (entry.number + 1) m entry.combination
        entry_combination = table_of.0.1

        pub entry_can : CanOffer table names ring e entry.number
        entry_can = can_above table names ring e so_far.low entry.number entry_is.from so_far.can

        pub entry_rows : AreRows has entry.number numbers rows
        entry_rows = rows_above has so_far.low entry.number numbers rows entry_is.from so_far.are_rows

        whole : so_far.front ++ entry ∷ behind ≡ entries
        whole = ap (λ es. so_far.front ++ es) (sym begins) ∙ so_far.joined

        -- an entry that does not suit
        pub none_suits : ((earlier : List ForwardEntry) → AreRowsOf value earlier numbers rows → ¬ (Suits m earlier entry))
            → (earlier : List ForwardEntry) → AreRowsOf value earlier old_numbers old_rows → ¬ (AllSuit m (earlier ++ entries))
        none_suits not earlier h all =
            not (earlier ++ so_far.front) (so_far.taken earlier h) (suit_at m (earlier ++ so_far.front) entry behind
            (subst (AllSuit m) (ap (λ es. earlier ++ es) (sym whole) ∙ sym (append_assoc earlier so_far.front (entry ∷ behind))) all))

        -- an entry that was put back
        pub restores_on : (new_table : RingTable R) (new_names : List RelName) (new_ring : R) (new : Elimination R E) (new_numbers : List ℕ)
            (new_rows : List (List (ℕ × E)))
            → CanOffer new_table new_names new_ring new (suc entry.number) → AreRows has (suc entry.number) new_numbers new_rows
            → ((earlier : List ForwardEntry) → AreRowsOf value earlier numbers rows → AreRowsOf value (earlier ++ entry ∷ []) new_numbers new_rows)
            → ((earlier : List ForwardEntry) → AreRowsOf value earlier numbers rows → Suits m earlier entry)
            → Goes new_table new_names new_ring new new_numbers new_rows behind
        restores_on new_table new_names new_ring new new_numbers new_rows can are_rows taken suits = record {
          low = entry.number + 1;
          within = omega (arith, entry_is.below);
          are_forward = are.1;
          in_table = table_of.1;
          can = subst (CanOffer new_table new_names new_ring new) (let e : suc entry.number ≡ entry.number + 1 = omega arith in e) can;
          are_rows = subst (λ n. AreRows has n new_numbers new_rows) (let e : suc entry.number ≡ entry.number + 1 = omega arith in e) are_rows;
          front = so_far.front ++ entry ∷ [];
          joined = append_assoc so_far.front (entry ∷ []) behind ∙ whole;
          taken = λ earlier h. subst (λ es. AreRowsOf value es new_numbers new_rows) (append_assoc earlier so_far.front (entry ∷ []))
              (taken (earlier ++ so_far.front) (so_far.taken earlier h));
          suit = λ earlier h all. subst (AllSuit m) (append_assoc earlier so_far.front (entry ∷ []))
              (suit_push m (earlier ++ so_far.front) entry (so_far.suit earlier h all) (suits (earlier ++ so_far.front) (so_far.taken earlier h)));
        }

-- a page that is no forward page has no entries
pub no_entries : (page : Page) → ((p : ForwardPage) → page ≢ Forward p) → entries_of_page page ≡ []
no_entries (Header q) none = refl
no_entries (Forward p) none = absurd (none p refl)
no_entries (Final p) none = refl
no_entries (Done rows) none = refl
