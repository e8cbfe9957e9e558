-- The rows of sealed pages whose entries suit are a forward list, and each of their forward pages holds them.
use Rattle.std.specs.Prelude.{◌≡◌, ℕ, zero, suc, ◌+◌, ◌*◌, ◌%◌, ◌<◌, ◌≤◌, if◌then◌else◌, Some, List, [], ◌∷◌, length, take, slice_get, get_or}
use Rattle.std.proofs.Common.{refl, sym, ◌∙◌, ap, subst, inl, inr, arith}
use Rattle.std.proofs.Math.ListN.{get_or-map}
use Rattle.zeta_model.specs.Inverses.{HasInverse}
use Rattle.std.specs.List.{AllByRecursion, Contains}
use Rattle.std.proofs.lemmas.Bool.{cases_eq, cases_order, eq-eqb, ne_eqb}
use Rattle.std.proofs.lemmas.List.{length-map, length-take, get_or-take}
use Rattle.std.proofs.lemmas.List.Elements.{Contains-append_cases, Contains-append_left, Contains-append_right, recursion_from_All}
use Rattle.std.proofs.lemmas.Map.Keys.{below_from_sorted}
use Rattle.std.proofs.lemmas.Option.{slice_get_within, slice_get_read, slice_get-get_or, get_or_from_slice_get}
use Rattle.column_order.specs.Columns.{ColumnList, column_count}
use Rattle.column_order.proofs.Distinct.{Contains-from_map}
use Rattle.sparse_rows.specs.Entries.{IsRow}
use Rattle.sparse_rows.proofs.EntryLemmas.{entry_of_before}
use Rattle.page_codec.specs.declared.params.Params.{Params}
use Rattle.page_codec.specs.declared.parts.ForwardEntry.{ForwardEntry}
use Rattle.page_codec.specs.declared.page.Page.{Page}
use Rattle.page_codec.specs.Bounds.{Chain, IsPair, IsPage}
use Rattle.page_codec.specs.Places.{AllFit}
use Rattle.table_model.specs.Conversion.{IsOver}
use Rattle.table_model.specs.ListedSpan.{count_of, relation_count}
use Rattle.file_model.specs.TableOf.{IsTableOf}
use Rattle.file_model.specs.Pages.{Pairs, pairs_of, forward_page, numbers_of}
use Rattle.file_model.specs.Resuming.{Kept, entries_of_page, entries_of, blocks_of, row_in, combination_in, kept_of, lead_of, AllSuit, AreForward, AreKept}
use Rattle.file_model.proofs.ParamColumns.{columns_are, relations_are}
use Rattle.file_model.proofs.SamePages.{number_stands}
use Rattle.file_model.proofs.KeptPages.{Found, found}
use Rattle.file_model.proofs.ListPlaces.{all_contains, contained_at, place_of}
use Rattle.file_model.proofs.NumberRanges.{AreInBlocks}
use Rattle.file_model.proofs.SealedBlocks.{IsFitting, IsBlock, Blocks, HaveBlocks, sealed_blocks, block_numbers, all_numbers, all_fitting}
use Rattle.file_model.proofs.WritableWork.{AreBeside}

-- ---- pairs

chain_row : (high low : ℕ) (es : Pairs) → Chain (λ low e. IsPair low high e) (λ low e. e.0 + 1) low es → IsRow (λ k. k) 0 low es
chain_row high low [] c = tt
chain_row high low (e ∷ es) c =
    let is = c.0 in
    (is.from, (λ z. absurd (let some : 0 < e.1 = is.residue in omega (arith, some, z))), chain_row high (e.0 + 1) es c.1)

-- past all keys there is nothing, and each residue is below the modulus
pairs_past : (high m : ℕ) (es : Pairs) → AllByRecursion (λ (e : ℕ × ℕ). (e.0 < high) × (e.1 < m)) es → (q : ℕ) → high ≤ q → pairs_of es q ≡ 0
pairs_past high m [] h q l = refl
pairs_past high m (e ∷ es) h q l =
    ap (λ b. (if b then e.1 else 0) + pairs_of es q) (ne_eqb e.0 q (λ z. absurd (omega (arith, z, h.0.0, l)))) ∙ omega (arith, pairs_past high m es h.1 q l)

pairs_small : (high m low : ℕ) (es : Pairs) → 0 < m → IsRow (λ k. k) 0 low es → AllByRecursion (λ (e : ℕ × ℕ). (e.0 < high) × (e.1 < m)) es → (q : ℕ)
    → pairs_of es q < m
pairs_small high m low [] pos r h q = pos
pairs_small high m low (e ∷ es) pos r h q = elim (cases_eq e.0 q) [
  | inl at ↦
      let here : pairs_of (e ∷ es) q ≡ e.1 + pairs_of es q = ap (λ b. (if b then e.1 else 0) + pairs_of es q) (eq-eqb e.0 q at) in
      let none : pairs_of es q ≡ 0 = entry_of_before (λ k. k) 0 (λ v. v) (e.0 + 1) q es r.2 (omega (arith, at)) in
      omega (arith, here, none, h.0.1)
  | inr ne ↦
      let same : pairs_of (e ∷ es) q ≡ 0 + pairs_of es q = ap (λ b. (if b then e.1 else 0) + pairs_of es q) (ne_eqb e.0 q ne) in
      omega (arith, same, pairs_small high m (e.0 + 1) es pos r.2 h.1 q)
]

before_lead : (low : ℕ) (es : Pairs) → IsRow (λ k. k) 0 low es → (j : ℕ) → j < lead_of es → pairs_of es j ≡ 0
before_lead low [] r j l = refl
before_lead low (e ∷ es) r j l = entry_of_before (λ k. k) 0 (λ v. v) e.0 j (e ∷ es) (omega arith, r.1, r.2) l

abbrev no_entry : ForwardEntry
no_entry = record { number = 0; row = []; combination = [] }

-- the rows are those of the entries, in order
pub record AreOfEntries (m : ℕ) (columns : ColumnList) (entries : List ForwardEntry) (kept : Kept) (rows : AreForward m columns kept) : Type 0 where
  pub count : rows.count ≡ length entries
  pub each : (i : ℕ) (e : ForwardEntry) → slice_get entries i ≡ Some e → (rows.number i ≡ e.number) × (rows.lead i ≡ lead_of e.row)
      × (e.number < count_of columns) × ((col : ℕ) → kept.rows (rows.number i) col ≡ pairs_of e.row col)

module _ (params : Params) (columns : ColumnList) (of : IsTableOf params columns) (fs : List Page) where
  abbrev m : ℕ
  m = params.modulus

  abbrev N : ℕ
  N = relation_count params.weight params.depth

  abbrev L : List ForwardEntry
  L = entries_of fs

  abbrev K : Kept
  K = record { below = 64 * length fs; rows = row_in L; combinations = combination_in L }

  big : 2 < m
  big = let t = of.table in t.modulus

  width : length columns.list ≡ column_count params.weight params.depth
  width = columns_are params columns of

  relations : count_of columns ≡ N
  relations = relations_are params columns of

  module _ (blocks : Blocks params N 0 fs) (suit : AllSuit m L) where
    in_order : AreInBlocks 0 fs
    in_order = all_numbers params N 0 fs blocks

    fit_at : (e : ForwardEntry) → Contains L e → IsFitting params N e
    fit_at e c = all_contains (IsFitting params N) L (all_fitting params N 0 fs blocks) e c

    row_is : (e : ForwardEntry) → IsFitting params N e → IsRow (λ k. k) 0 0 e.row
    row_is e f = let d = f.row in chain_row 2048 0 e.row d.pairs

    combination_is : (e : ForwardEntry) → IsFitting params N e → IsRow (λ k. k) 0 0 e.combination
    combination_is e f = let d = f.combination in chain_row 4294967296 0 e.combination d.pairs

    row_within : (e : ForwardEntry) → IsFitting params N e
        → AllByRecursion (λ (p : ℕ × ℕ). (p.0 < column_count params.weight params.depth) × (p.1 < m)) e.row
    row_within e f = let t = f.table in recursion_from_All (λ (p : ℕ × ℕ). (p.0 < column_count params.weight params.depth) × (p.1 < m)) e.row t.row

    combination_within : (e : ForwardEntry) → IsFitting params N e → AllByRecursion (λ (p : ℕ × ℕ). (p.0 < e.number + 1) × (p.1 < m)) e.combination
    combination_within e f = let t = f.table in recursion_from_All (λ (p : ℕ × ℕ). (p.0 < e.number + 1) × (p.1 < m)) e.combination t.combination

    -- ---- places and numbers

    abbrev entry_at : ℕ → ForwardEntry
    entry_at i = get_or L i no_entry

    abbrev number_of : ℕ → ℕ
    number_of i = (entry_at i).number

    there : (i : ℕ) → i < length L → slice_get L i ≡ Some (entry_at i)
    there i l = slice_get-get_or L i no_entry l

    number_less : (i j : ℕ) → i < j → j < length L → number_of i < number_of j
    number_less i j l inside =
        let long : length (numbers_of L) ≡ length L = length-map L (λ (g : ForwardEntry). g.number) in
        let less : get_or (numbers_of L) i 0 < get_or (numbers_of L) j 0 =
        below_from_sorted (numbers_of L) i j 0 in_order.rising l (omega (arith, inside, long)) in
        let left : get_or (numbers_of L) i 0 ≡ number_of i = get_or-map (λ (g : ForwardEntry). g.number) L i no_entry in
        let right : get_or (numbers_of L) j 0 ≡ number_of j = get_or-map (λ (g : ForwardEntry). g.number) L j no_entry in
        omega (arith, less, left, right)

    one_place : (i j : ℕ) → i < length L → j < length L → number_of i ≡ number_of j → i ≡ j
    one_place i j li lj e = elim (cases_order i j) [
      | inl at ↦ at
      | inr o ↦ elim o [
        | inl l ↦ absurd (omega (arith, e, number_less i j l lj))
        | inr l ↦ absurd (omega (arith, e, number_less j i l li))
      ]
    ]

    number_below : (e : ForwardEntry) → Contains L e → e.number < 64 * length fs
    number_below e (i, l, at) =
        let bounds = all_contains (λ n. (64 * 0 ≤ n) × (n < 64 * (0 + length fs))) (numbers_of L) in_order.within e.number
        (number_stands L i e (place_of L i e l at)) in
        omega (arith, bounds.1)

    -- what is kept for the number of an entry is that entry's
    entry_kept : (e : ForwardEntry) → Contains L e
        → ((col : ℕ) → row_in L e.number col ≡ pairs_of e.row col) × ((k : ℕ) → combination_in L e.number k ≡ pairs_of e.combination k)
    entry_kept e (i, l, at) = go (found L e.number)
      where
        go : Found L e.number → ((col : ℕ) → row_in L e.number col ≡ pairs_of e.row col) × ((k : ℕ) → combination_in L e.number k ≡ pairs_of e.combination k)
        go (inr (none, row, combination)) = absurd (none e (i, l, at) refl)
        go (inl (g, (j, lj, place), same, row, combination)) =
            let own : entry_at i ≡ e = sym (get_or_from_slice_get L i (entry_at i) no_entry (there i l)) ∙ own_at i l e at in
            let other : entry_at j ≡ g = own_at j lj g place in
            let is : i ≡ j = one_place i j l lj (ap (λ (x : ForwardEntry). x.number) own ∙ sym same ∙ ap (λ (x : ForwardEntry). x.number) (sym other)) in
            let one : g ≡ e = sym other ∙ ap entry_at (sym is) ∙ own in
            (λ col. row col ∙ ap (λ (x : ForwardEntry). pairs_of x.row col) one, λ k. combination k ∙ ap (λ (x : ForwardEntry). pairs_of x.combination k) one)
          where
            own_at : (i : ℕ) → i < length L → (e : ForwardEntry) → get_or L i e ≡ e → entry_at i ≡ e
            own_at i l e at = get_or_from_slice_get L i e no_entry (slice_get_read L (length L) i e refl l (sym at))

    held_at : (i : ℕ) → i < length L → Contains L (entry_at i)
    held_at i l = contained_at L i (entry_at i) (there i l)

    row_at : (i : ℕ) → i < length L → (col : ℕ) → row_in L (number_of i) col ≡ pairs_of (entry_at i).row col
    row_at i l = (entry_kept (entry_at i) (held_at i l)).0

    combination_at : (i : ℕ) → i < length L → (k : ℕ) → combination_in L (number_of i) k ≡ pairs_of (entry_at i).combination k
    combination_at i l = (entry_kept (entry_at i) (held_at i l)).1

    earlier_at : (i k : ℕ) → k < i → i < length L → slice_get (take i L) k ≡ Some (entry_at k)
    earlier_at i k l inside =
        let low : k < length L = omega (arith, l, inside) in
        let long : k < length (take i L) = omega (arith, l, low, length-take i L) in
        slice_get_read (take i L) (length (take i L)) k (entry_at k) refl long
        (sym (get_or-take i L k (entry_at k) l ∙ get_or_from_slice_get L k (entry_at k) (entry_at k) (there k low)))

    over_number : (n : ℕ) → IsOver m columns (row_in L n)
    over_number n = go (found L n)
      where
        go : Found L n → IsOver m columns (row_in L n)
        go (inl (e, c, same, row, combination)) col past =
            ap (λ x. x % m) (row col ∙ pairs_past (column_count params.weight params.depth) m e.row (row_within e (fit_at e c)) col
            (omega (arith, past, width)))
        go (inr (none, row, combination)) col past = ap (λ x. x % m) (row col)

    pub rows_forward : AreForward m columns K
    rows_forward = record {
      count = length L;
      number = number_of;
      lead = λ i. lead_of (entry_at i).row;
      below = λ i l. number_below (entry_at i) (held_at i l);
      rising = λ i k l inside. number_less i k l inside;
      forward = record {
        one = λ i l. let s = suit i (entry_at i) (there i l) in ap (λ x. x % m) (row_at i l (lead_of (entry_at i).row) ∙ s.begins);
        before = λ i j l lj. ap (λ x. x % m) (row_at i l j ∙ before_lead 0 (entry_at i).row (row_is (entry_at i) (fit_at (entry_at i) (held_at i l))) j lj);
        clear = λ i k l lk.
            let s = suit i (entry_at i) (there i l) in
            ap (λ x. x % m) (row_at i l (lead_of (entry_at k).row) ∙ s.clear k (entry_at k) (earlier_at i k lk l));
      };
      over = λ n l. over_number n;
      others = λ n l none col. no_row n none col (found L n);
    }
      where
        no_row : (n : ℕ) → ((i : ℕ) → i < length L → ¬ (number_of i ≡ n)) → (col : ℕ) → Found L n → row_in L n col % m ≡ 0 % m
        no_row n none col (inr (absent, row, combination)) = ap (λ x. x % m) (row col)
        no_row n none col (inl (e, (i, l, at), same, row, combination)) =
            let own : entry_at i ≡ e = get_or_from_slice_get L i e no_entry (slice_get_read L (length L) i e refl l (sym at)) in
            absurd (none i l (ap (λ (x : ForwardEntry). x.number) own ∙ same))

    pub rows_of_entries : AreOfEntries m columns L K rows_forward
    unfolding rows_forward
    rows_of_entries = record {
      count = refl;
      each = λ i e at.
          let l : i < length L = slice_get_within L i e at in
          let own : entry_at i ≡ e = get_or_from_slice_get L i e no_entry at in
          let f : IsFitting params N (entry_at i) = fit_at (entry_at i) (held_at i l) in
          let t = f.table in
          let few : number_of i < N = t.number in (
            ap (λ (x : ForwardEntry). x.number) own,
            ap (λ (x : ForwardEntry). lead_of x.row) own,
            omega (arith, few, relations, ap (λ (x : ForwardEntry). x.number) own),
            λ col. row_at i l col ∙ ap (λ (x : ForwardEntry). pairs_of x.row col) own,
          );
    }

    -- ---- what stands beside the rows

    -- a number of the entries before place i is that of an earlier place
    earlier_number : (i q : ℕ) → i < length L → Contains (numbers_of (take i L)) q → (j : ℕ) × (j < length L) × (number_of j ≡ q)
    earlier_number i q l c =
        let (e, held, same) = Contains-from_map (λ (g : ForwardEntry). g.number) (take i L) q c in
        let (j, lj, at) = held in
        let early : j < i = omega (arith, lj, length-take i L) in
        let place : get_or L j e ≡ e = sym (get_or-take i L j e early) ∙ at in
        let own : entry_at j ≡ e = get_or_from_slice_get L j e no_entry (slice_get_read L (length L) j e refl (omega (arith, early, l)) (sym place)) in
        (j, omega (arith, early, l), ap (λ (x : ForwardEntry). x.number) own ∙ same)

    pub rows_beside : AreBeside m columns K rows_forward
    unfolding rows_forward
    rows_beside = record {
      none = λ n none q. no_combination n none q (found L n);
      past = λ n q l. none_past n q l (found L n);
      own = λ i l. let s = suit i (entry_at i) (there i l) in subst (HasInverse m) (sym (combination_at i l (number_of i))) s.own;
      others = λ i q l some ne. let s = suit i (entry_at i) (there i l) in
          earlier_number i q l (s.others q (λ z. some (combination_at i l q ∙ z)) ne);
    }
      where
        no_combination : (n : ℕ) → ((i : ℕ) → i < length L → ¬ (number_of i ≡ n)) → (q : ℕ) → Found L n → combination_in L n q ≡ 0
        no_combination n none q (inr (absent, row, combination)) = combination q
        no_combination n none q (inl (e, (i, l, at), same, row, combination)) =
            let own : entry_at i ≡ e = get_or_from_slice_get L i e no_entry (slice_get_read L (length L) i e refl l (sym at)) in
            absurd (none i l (ap (λ (x : ForwardEntry). x.number) own ∙ same))

        none_past : (n q : ℕ) → n < q → Found L n → combination_in L n q ≡ 0
        none_past n q l (inr (absent, row, combination)) = combination q
        none_past n q l (inl (e, c, same, row, combination)) =
            combination q ∙ pairs_past (e.number + 1) m e.combination (combination_within e (fit_at e c)) q (omega (arith, same, l))

    -- ---- the page of a block

    -- entries with numbers of block b are those of its page
    of_block : (a : ℕ) (gs : List Page) → Blocks params N a gs → (k : ℕ) (es : List ForwardEntry) → slice_get gs k ≡ Some (forward_page (64 * (a + k)) es)
        → IsBlock params N (a + k) es × ((e : ForwardEntry) → Contains es e → Contains (entries_of gs) e)
        × ((e : ForwardEntry) → Contains (entries_of gs) e → 64 * (a + k) ≤ e.number → e.number < 64 * (a + k) + 64 → Contains es e)
    of_block a [] h k es at = absurd (let l : k < 0 = slice_get_within [] k (forward_page (64 * (a + k)) es) at in omega (arith, l))
    of_block a (g ∷ gs) h zero es at =
        let (own, is, block) = h.0 in
        let start : a + 0 ≡ a = omega arith in
        let page : forward_page (64 * (a + 0)) es ≡ g = sym (get_or_from_slice_get (g ∷ gs) 0 (forward_page (64 * (a + 0)) es) g at) in
        let entries : es ≡ own = ap entries_of_page (page ∙ is) in
        let same : entries_of_page g ≡ es = ap entries_of_page (sym page) in (
          subst (λ x. IsBlock params N x es) (sym start) (subst (IsBlock params N a) (sym entries) block),
          λ e c. Contains-append_left (entries_of_page g) (entries_of gs) e (subst (λ xs. Contains xs e) (sym same) c),
          λ e c from to. elim (Contains-append_cases (entries_of_page g) (entries_of gs) e c) [
            | inl here ↦ subst (λ xs. Contains xs e) same here
            | inr later ↦ absurd (let low = number_from (suc a) gs h.1 e later in omega (arith, low, to))
          ],
        )
      where
        number_from : (b : ℕ) (gs : List Page) → Blocks params N b gs → (e : ForwardEntry) → Contains (entries_of gs) e → 64 * b ≤ e.number
        number_from b gs h e (i, l, at) =
            let in_order = all_numbers params N b gs h in
            let bounds = all_contains (λ n. (64 * b ≤ n) × (n < 64 * (b + length gs))) (numbers_of (entries_of gs)) in_order.within e.number
            (number_stands (entries_of gs) i e (place_of (entries_of gs) i e l at)) in
            bounds.0
    of_block a (g ∷ gs) h (suc k) es at =
        let (own, is, block) = h.0 in
        let step : a + suc k ≡ suc a + k = omega arith in
        let page : Page = forward_page (64 * (a + suc k)) es in
        let l : suc k < length (g ∷ gs) = slice_get_within (g ∷ gs) (suc k) page at in
        let low : slice_get gs k ≡ Some page =
        slice_get_read gs (length gs) k page refl (omega (arith, l)) (sym (get_or_from_slice_get (g ∷ gs) (suc k) page page at)) in
        let (inner, into, back) = of_block (suc a) gs h.1 k es (subst (λ x. slice_get gs k ≡ Some (forward_page (64 * x) es)) step low) in (
          subst (λ x. IsBlock params N x es) (sym step) inner,
          λ e c. Contains-append_right (entries_of_page g) (entries_of gs) e (into e c),
          λ e c from to. elim (Contains-append_cases (entries_of_page g) (entries_of gs) e c) [
            | inr later ↦ back e later (omega (arith, from)) (omega (arith, to))
            | inl here ↦
                let own_entry : Contains own e = subst (λ x. Contains (entries_of_page x) e) is here in
                absurd (let high = number_to a own block e own_entry in omega (arith, high, from))
          ],
        )
      where
        number_to : (b : ℕ) (xs : List ForwardEntry) → IsBlock params N b xs → (e : ForwardEntry) → Contains xs e → e.number < 64 * b + 64
        number_to b xs h e (i, l, at) =
            let ranged = block_numbers params N b xs h in
            let bounds = all_contains (λ n. (64 * b ≤ n) × (n < 64 * b + 64)) (numbers_of xs) ranged.within e.number
            (number_stands xs i e (place_of xs i e l at)) in
            bounds.1

    pub page_kept : (b : ℕ) (es : List ForwardEntry) → slice_get fs b ≡ Some (forward_page (64 * b) es) → AreKept m columns K rows_forward b es
    unfolding rows_forward
    page_kept b es at =
        let zero_more : b ≡ 0 + b = omega arith in
        let (block, into, back) = of_block 0 fs blocks b es (subst (λ x. slice_get fs b ≡ Some (forward_page (64 * x) es)) zero_more at) in
        let own : IsBlock params N b es = subst (λ x. IsBlock params N x es) (sym zero_more) block in
        let inside : b < length fs = slice_get_within fs b (forward_page (64 * b) es) at in
        let held : (e : ForwardEntry) → Contains es e → Contains L e = into in record {
          block = omega (arith, inside);
          increasing = let ranged = block_numbers params N b es own in ranged.rising;
          numbers = λ n. (
            λ c. number_there n (number_bounds n c own) c into,
            λ (found, from, to, few). number_back n found from to back,
          );
          row = λ i e place.
              let c : Contains L e = into e (contained_at es i e place) in
              let f : IsFitting params N e = fit_at e c in (
                row_is e f,
                λ col. (
                  pairs_small (column_count params.weight params.depth) m 0 e.row (omega (arith, big)) (row_is e f) (row_within e f) col,
                  (entry_kept e c).0 col,
                ),
              );
          combination = λ i e place.
              let c : Contains L e = into e (contained_at es i e place) in
              let f : IsFitting params N e = fit_at e c in (
                combination_is e f,
                λ k. (
                  pairs_small (e.number + 1) m 0 e.combination (omega (arith, big)) (combination_is e f) (combination_within e f) k,
                  (entry_kept e c).1 k,
                ),
              );
        }
      where
        number_bounds : (n : ℕ) → Contains (numbers_of es) n → IsBlock params N b es → (64 * b ≤ n) × (n < 64 * b + 64)
        number_bounds n c own =
            let ranged = block_numbers params N b es own in
            all_contains (λ n. (64 * b ≤ n) × (n < 64 * b + 64)) (numbers_of es) ranged.within n c

        number_there : (n : ℕ) → (64 * b ≤ n) × (n < 64 * b + 64) → Contains (numbers_of es) n → ((e : ForwardEntry) → Contains es e → Contains L e)
            → ((i : ℕ) × (i < length L) × (number_of i ≡ n)) × (64 * b ≤ n) × (n < 64 * b + 64) × (n < count_of columns)
        number_there n (from, to) c into =
            let (e, held, same) = Contains-from_map (λ (g : ForwardEntry). g.number) es n c in
            let (i, l, place) = into e held in
            let own : entry_at i ≡ e = get_or_from_slice_get L i e no_entry (slice_get_read L (length L) i e refl l (sym place)) in
            let f : IsFitting params N e = fit_at e (i, l, place) in
            let t = f.table in
            let few : e.number < N = t.number in
            ((i, l, ap (λ (x : ForwardEntry). x.number) own ∙ same), from, to, omega (arith, few, same, relations))

        number_back : (n : ℕ) → ((i : ℕ) × (i < length L) × (number_of i ≡ n)) → 64 * b ≤ n → n < 64 * b + 64
            → ((e : ForwardEntry) → Contains L e → 64 * (0 + b) ≤ e.number → e.number < 64 * (0 + b) + 64 → Contains es e) → Contains (numbers_of es) n
        number_back n (i, l, same) from to back =
            let (j, lj, place) = back (entry_at i) (held_at i l) (omega (arith, from, same)) (omega (arith, to, same)) in
            subst (Contains (numbers_of es)) same (number_stands es j (entry_at i) (slice_get_read es (length es) j (entry_at i) refl lj (sym place)))

-- sealed pages keep what their forward pages keep
pub kept_blocks : (params : Params) (n : ℕ) (sealed : List Page) (h : HaveBlocks params n sealed)
    → record { below = 64 * length h.blocks; rows = row_in (entries_of h.blocks); combinations = combination_in (entries_of h.blocks) } ≡ kept_of sealed
kept_blocks params n sealed h = λ i. record {
  below = 64 * sym h.blocks_are i;
  rows = row_in (sym h.entries_are i);
  combinations = combination_in (sym h.entries_are i);
}

-- the pages that are sealed keep a forward list, and each forward page of theirs holds its rows
pub sealed_kept : (params : Params) (columns : ColumnList) → IsTableOf params columns → (sealed : List Page) → AllByRecursion IsPage sealed
    → AllFit params (relation_count params.weight params.depth) sealed → AllSuit params.modulus (entries_of sealed)
    → (rows : AreForward params.modulus columns (kept_of sealed)) × ((b : ℕ) (es : List ForwardEntry) → b < blocks_of sealed
    → slice_get sealed (suc b) ≡ Some (forward_page (64 * b) es) → AreKept params.modulus columns (kept_of sealed) rows b es)
sealed_kept params columns of sealed is fit suit =
    let h = sealed_blocks params (relation_count params.weight params.depth) sealed is fit in
    let suits : AllSuit params.modulus (entries_of h.blocks) = subst (AllSuit params.modulus) h.entries_are suit in
    subst (λ k. (rows : AreForward params.modulus columns k) × ((b : ℕ) (es : List ForwardEntry) → b < blocks_of sealed
    → slice_get sealed (suc b) ≡ Some (forward_page (64 * b) es) → AreKept params.modulus columns k rows b es))
    (kept_blocks params (relation_count params.weight params.depth) sealed h) (
      rows_forward params columns of h.blocks h.are suits,
      λ b es l at.
          page_kept params columns of h.blocks h.are suits b es
          (block_there h.blocks b (forward_page (64 * b) es) (omega (arith, l, h.blocks_are)) h.forward_is at),
    )
  where
    -- the page stands among the blocks too
    block_there : (blocks : List Page) (b : ℕ) (page : Page) → b < length blocks
        → ((k : ℕ) (p : Page) → slice_get blocks k ≡ Some p → slice_get sealed (suc k) ≡ Some p) → slice_get sealed (suc b) ≡ Some page
        → slice_get blocks b ≡ Some page
    block_there blocks b page l forward at =
        let own : slice_get blocks b ≡ Some (get_or blocks b page) = slice_get-get_or blocks b page l in
        let same : get_or blocks b page ≡ page =
        sym (get_or_from_slice_get sealed (suc b) (get_or blocks b page) page (forward b (get_or blocks b page) own))
        ∙ get_or_from_slice_get sealed (suc b) page page at in
        own ∙ ap (λ p. Some p) same
