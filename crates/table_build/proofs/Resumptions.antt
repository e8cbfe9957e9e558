-- The course of going on from sealed pages: the rows that are put back are its forward rows, and its first pages are the sealed ones.
use Rattle.std.specs.Prelude.{◌≡◌, ℕ, zero, suc, ◌+◌, ◌*◌, ◌%◌, ◌<◌, ◌≤◌, ◌↔◌, min, Bool, Some, List, [], ◌∷◌, length, take, slice_get, get_or}
use Rattle.std.proofs.Common.{refl, sym, ◌∙◌, ap, subst, inl, inr, arith}
use Rattle.std.proofs.Math.ListN.{get_or-map}
use Rattle.std.proofs.lemmas.List.{length-map, length-append}
use Rattle.std.proofs.lemmas.Option.{slice_get-get_or}
use Rattle.zeta_model.specs.Sums.{Sum}
use Rattle.zeta_model.proofs.ModularLemmas.{same-mul_left}
use Rattle.linear_model.specs.Rows.{combination, SameRow}
use Rattle.linear_model.proofs.Totals.{same-total}
use Rattle.column_order.specs.Columns.{ColumnList}
use Rattle.echelon.specs.Lists.{row_at, lead_at, AreForward as AreForwardRows}
use Rattle.table_model.specs.Conversion.{Converts}
use Rattle.table_model.specs.ListedSpan.{count_of, relation_count}
use Rattle.table_model.specs.ReducedRows.{IsAccepted, IsForwardRow}
use Rattle.table_model.proofs.RowWords.{cols_unique}
use Rattle.page_codec.specs.declared.params.Params.{Params}
use Rattle.page_codec.specs.declared.parts.ForwardEntry.{ForwardEntry}
use Rattle.page_codec.specs.declared.parts.FinalPage.{FinalPage}
use Rattle.page_codec.specs.declared.page.Page.{Page}
use Rattle.page_codec.specs.declared.page.Page.TheVariants.{Header, Forward, Final, Done}
use Rattle.page_codec.specs.Bounds.{IsParams}
use Rattle.page_codec.specs.Places.{block_count, FitsPlace, EndsFinal}
use Rattle.page_file.specs.Files.{IsSealed}
use Rattle.page_file.proofs.Reading.{sealed_unique}
use Rattle.file_model.specs.TableOf.{IsTableOf}
use Rattle.file_model.specs.Pages.{ArePages}
use Rattle.file_model.specs.Resuming.{Kept, lead_of as pairs_lead, entries_of, blocks_of, kept_of, AllSuit, AreForward, IsResumed}
use Rattle.file_model.specs.Builds.{IsOurs, work_from}
use Rattle.file_model.proofs.ListPlaces.{first_places}
use Rattle.file_model.proofs.ParamColumns.{same_columns, relations_are}
use Rattle.file_model.proofs.TrueRows.{sum_listed, is_resumed_work}
use Rattle.file_model.proofs.SuitingRows.{row_is_cols, all_span, going_on_unbroken, going_on_forward, going_on_accepted}
use Rattle.file_model.proofs.KeptRows.{AreOfEntries}
use Rattle.file_model.proofs.KeptStay.{beside_one}
use Rattle.file_model.proofs.WritableWork.{written_listed}
use Rattle.file_model.proofs.SealedStay.{our_entries, our_blocks, our_pages_stay}
use Rattle.file_model.proofs.ResumedPages.{resumed_exist, resumed_placed}
use Rattle.table_build.specs.Inner.{Course, HasOffered, SpanFirst, Stands, AreRowsOf, AreRowsOn, IsGoingOn}
use Rattle.table_build.proofs.WrittenEntries.{lead_written, pairs_are}
use Rattle.table_build.proofs.Courses.{header_first}

-- ---- rows that are put back

abbrev no_entry : ForwardEntry
no_entry = record { number = 0; row = []; combination = [] }

module _ {E : Type 0} (m : ℕ) (zero_element : E) (has : E → Bool) (value : E → ℕ) (columns : ColumnList) (entries : List ForwardEntry) (kept : Kept)
    (forward : AreForward m columns kept) (placed : AreOfEntries m columns entries kept forward) (numbers : List ℕ) (rows : List (List (ℕ × E)))
    (taken : AreRowsOf value entries numbers rows) where
  as_many : forward.count ≡ length rows
  as_many = placed.count ∙ sym taken.count

  entry_at : ℕ → ForwardEntry
  entry_at i = get_or entries i no_entry

  there : (i : ℕ) → i < length rows → slice_get entries i ≡ Some (entry_at i)
  unfolding entry_at
  there i l = slice_get-get_or entries i no_entry (omega (arith, l, taken.count))

  numbers_count : length numbers ≡ length rows
  numbers_count = ap length taken.numbers_are ∙ length-map entries (λ (e : ForwardEntry). e.number) ∙ sym taken.count

  number_at : (i : ℕ) → i < length rows → get_or numbers i 0 ≡ forward.number i
  unfolding entry_at
  number_at i l = ap (λ ns. get_or ns i 0) taken.numbers_are ∙ get_or-map (λ (e : ForwardEntry). e.number) entries i no_entry
      ∙ sym (placed.each i (entry_at i) (there i l)).0

  number_few : (i : ℕ) → i < length rows → forward.number i < count_of columns
  number_few i l = let (number, lead, few, row) = placed.each i (entry_at i) (there i l) in omega (arith, few, number)

  row_same : (i : ℕ) → i < length rows → (col : ℕ) → kept.rows (forward.number i) col ≡ row_at value rows i col
  row_same i l col =
      let e : ForwardEntry = entry_at i in
      let (number, lead, few, row) = placed.each i e (there i l) in
      row col ∙ sym (pairs_are value zero_element has (get_or rows i []) e.row (sym (taken.rows_are i e (there i l))) col)

  lead_same : (i : ℕ) → i < length rows → forward.lead i ≡ lead_at rows i
  lead_same i l =
      let e : ForwardEntry = entry_at i in
      let (number, lead, few, row) = placed.each i e (there i l) in
      lead ∙ ap pairs_lead (taken.rows_are i e (there i l)) ∙ lead_written value (get_or rows i [])

  -- the rows are a forward list
  list : AreForwardRows m value rows
  list = let f = forward.forward in record {
    one = λ i l. ap (λ x. x % m) (sym (row_same i l (lead_at rows i)) ∙ ap (kept.rows (forward.number i)) (sym (lead_same i l)))
        ∙ f.one i (omega (arith, l, as_many));
    before = λ i j l lj. ap (λ x. x % m) (sym (row_same i l j)) ∙ f.before i j (omega (arith, l, as_many)) (omega (arith, lj, lead_same i l));
    clear = λ i k l lk.
        ap (λ x. x % m) (sym (row_same i l (lead_at rows k)) ∙ ap (kept.rows (forward.number i)) (sym (lead_same k (omega (arith, l, lk)))))
        ∙ f.clear i k (omega (arith, l, as_many)) lk;
  }

-- ---- the course

none_before : {q : FinalPage} → EndsFinal [] q → ⊥
none_before {q} (front, e) = omega (arith, ap length e, length-append front (Final q ∷ []))

module _ (params : Params) (columns : ColumnList) (of : IsTableOf params columns) (converts : Converts params.modulus columns) (bytes : List ℕ)
    (sealed : List Page) (ours : IsOurs params bytes sealed) (suit : AllSuit params.modulus (entries_of sealed)) where
  abbrev m : ℕ
  m = params.modulus

  abbrev kept : Kept
  kept = kept_of sealed

  abbrev first : ℕ
  first = min (64 * blocks_of sealed) (count_of columns)

  abbrev S : ℕ → Sum
  S = (work_from params columns sealed).sums

  -- work that goes on from the sealed pages
  abbrev pub going_on : List Page → Course
  going_on pages = record { params = params; work = work_from params columns sealed; from = first; pages = pages }

  pub going_on_course : IsParams params → (pages : List Page) × IsResumed params sealed pages × IsGoingOn m columns params sealed (going_on pages)
  going_on_course fits =
      let (pages, resumed) = resumed_exist params columns of bytes sealed ours suit in
      let placed = resumed_placed params fits columns of bytes sealed ours suit pages resumed in
      let are : ArePages params columns (work_from params columns sealed) pages =
      subst (λ c. ArePages params c (work_from params c sealed) pages) (same_columns params resumed.columns columns resumed.are_columns of)
      resumed.are_pages in (
        pages,
        resumed,
        record {
          is_course = record {
            modulus = refl;
            are_columns = of;
            converts = converts;
            is_work = is_resumed_work m columns of.table converts kept;
            are_pages = are;
            each = placed.0;
            fit = placed.1;
            offers = λ n from few. sum_listed m columns of.table converts kept n (omega (arith, from, few));
            writes = λ n from few q. beside_one m columns kept n few q ∙ ap (λ x. x % m) (written_listed kept n q (omega (arith, from, few)));
          };
          params_are = refl;
          work_is = refl;
          from = refl;
          header = header_first params columns (work_from params columns sealed) pages converts are;
          forward = λ b l. let next : 1 + b ≡ suc b = omega arith in
              subst (λ i. slice_get pages i ≡ slice_get sealed i) (sym next)
              (our_pages_stay params columns of bytes sealed ours suit converts pages resumed b l);
        },
      )

  -- ---- the rows of the sealed pages, put back

  module _ {E : Type 0} (zero_element : E) (has : E → Bool) (value : E → ℕ) (numbers : List ℕ) (rows : List (List (ℕ × E)))
      (taken : AreRowsOn value sealed numbers rows) where
    own : AreForward m columns kept
    own = (our_entries params columns of bytes sealed ours suit).0

    placed : AreOfEntries m columns (entries_of sealed) kept own
    unfolding own
    placed = (our_entries params columns of bytes sealed ours suit).1

    count_is : own.count ≡ length rows
    count_is = as_many m zero_element has value columns (entries_of sealed) kept own placed numbers rows taken

    longer : length numbers ≡ length rows
    longer = numbers_count m zero_element has value columns (entries_of sealed) kept own placed numbers rows taken

    number_is : (i : ℕ) → i < length rows → get_or numbers i 0 ≡ own.number i
    number_is = number_at m zero_element has value columns (entries_of sealed) kept own placed numbers rows taken

    row_is : (i : ℕ) → i < length rows → (col : ℕ) → kept.rows (own.number i) col ≡ row_at value rows i col
    row_is = row_same m zero_element has value columns (entries_of sealed) kept own placed numbers rows taken

    number_low : (i : ℕ) → i < length rows → own.number i < first
    number_low i l = omega (
      arith,
      own.below i (omega (arith, l, count_is)),
      number_few m zero_element has value columns (entries_of sealed) kept own placed numbers rows taken i l,
    )

    spans : SpanFirst m value columns S first rows
    spans cols each =
        let both = all_span m columns of.table converts kept own first (omega arith) (λ i l. number_low i (omega (arith, l, count_is))) in (
          λ i l. let (c, is) = both.0 i (omega (arith, l, count_is)) in
              (c, λ col. ap (λ x. x % m) (sym (row_is i l col)) ∙ is col ∙ to_cols c col),
          λ k l. let (c, is) = both.1 k l in
              (c, λ col. same_cols k l col ∙ is col ∙ same_rows c col),
        )
      where
        same_cols : (k : ℕ) → k < first → SameRow m (cols k) (kept.rows k)
        same_cols k l = cols_unique m columns of.table converts (S k) (cols k) (kept.rows k) (each k l)
            (row_is_cols m columns of.table converts kept own k (omega (arith, l)))

        to_cols : (c : ℕ → ℕ) → SameRow m (combination first kept.rows c) (combination first cols c)
        to_cols c col = same-total m first _ _ (λ k l. same-mul_left m (kept.rows k col) (cols k col) (c k) (sym (same_cols k l col)))

        same_rows : (c : ℕ → ℕ) → SameRow m (combination own.count (λ j. kept.rows (own.number j)) c) (combination (length rows) (row_at value rows) c)
        same_rows c col = ap (λ n. combination n (λ j. kept.rows (own.number j)) c col % m) count_is
            ∙ same-total m (length rows) _ _ (λ i l. ap (λ x. c i * x % m) (row_is i l col))

    forward_row : (i : ℕ) → i < length rows → IsForwardRow m columns S (get_or numbers i 0) (row_at value rows i)
    forward_row i l =
        let f = going_on_forward m columns of.table converts kept own i (omega (arith, l, count_is)) in
        subst (λ n. IsForwardRow m columns S n (row_at value rows i)) (sym (number_is i l)) (record {
          rest = f.rest;
          is_rest = f.is_rest;
          col = f.col;
          leads = f.leads;
          inverse = f.inverse;
          inverts = f.inverts;
          is = λ j. ap (λ x. x % m) (sym (row_is i l j)) ∙ f.is j;
        })

    numbers_accepted : (k : ℕ) → Stands numbers k ↔ (IsAccepted m columns S k × (k < first))
    numbers_accepted k = (
      λ (i, l, at).
          let inside : i < length rows = omega (arith, l, longer) in
          let is : own.number i ≡ k = sym (number_is i inside) ∙ at in
          let low : k < first = subst (λ x. x < first) is (number_low i inside) in
          ((going_on_accepted m columns of.table converts kept own k (omega (arith, low))).1 (i, omega (arith, inside, count_is), is), low),
      λ (is, low).
          let (i, l, at) = (going_on_accepted m columns of.table converts kept own k (omega (arith, low))).0 is in
          let inside : i < length rows = omega (arith, l, count_is) in
          (i, omega (arith, inside, longer), number_is i inside ∙ at),
    )

    -- they are the forward rows of what was offered before
    pub started : (pages : List Page) → IsGoingOn m columns params sealed (going_on pages) → HasOffered m value columns (going_on pages) first numbers rows
    started pages is = record {
      is_course = is.is_course;
      from = omega arith;
      list = list m zero_element has value columns (entries_of sealed) kept own placed numbers rows taken;
      count = longer;
      unbroken = λ k l. going_on_unbroken m columns of.table converts kept own k (omega (arith, l));
      span = spans;
      accepted = numbers_accepted;
      forward = λ i l. forward_row i (omega (arith, l, longer));
    }

  -- ---- the first pages

  sealed_are : (others : List Page) → IsSealed others bytes → sealed ≡ others
  sealed_are others is = let reads = ours.reads in sealed_unique sealed others bytes reads.sealed is

  count_are : count_of columns ≡ relation_count params.weight params.depth
  count_are = relations_are params columns of

  header_at : (pages : List Page) → ((i : ℕ) → i < length pages → (page : Page) → slice_get pages i ≡ Some page
      → FitsPlace params (relation_count params.weight params.depth) (take i pages) page) → 0 < length pages → slice_get pages 0 ≡ Some (Header params)
  header_at [] fit some = absurd (omega (arith, some))
  header_at (Header q ∷ pages) fit some = let h = fit 0 some (Header q) refl in ap (λ p. Some (Header p)) h.1
  header_at (Forward q ∷ pages) fit some = let h = fit 0 some (Forward q) refl in absurd (let l : 1 ≤ 0 = h.behind_header in omega (arith, l))
  header_at (Final q ∷ pages) fit some = let h = fit 0 some (Final q) refl in elim h.first [
    | inl f ↦ absurd (let l : 0 ≡ block_count (relation_count params.weight params.depth) + 1 = f.0 in omega (arith, l))
    | inr f ↦ absurd (none_before f.1)
  ]
  header_at (Done rows ∷ pages) fit some = let h = fit 0 some (Done rows) refl in elim h.behind [
    | inl f ↦ absurd (let l : 0 ≡ block_count (relation_count params.weight params.depth) + 1 = f in omega (arith, l))
    | inr f ↦ absurd (none_before f.1)
  ]

  module _ (pages : List Page) (is : IsGoingOn m columns params sealed (going_on pages)) where
    -- the header and the forward pages
    same_place : (i : ℕ) → i < length sealed → i < 1 + blocks_of sealed → slice_get sealed i ≡ slice_get pages i
    same_place zero l low = header_at sealed ours.fit l ∙ sym is.header
    same_place (suc b) l low =
        let next : 1 + b ≡ suc b = omega arith in
        subst (λ i. slice_get sealed i ≡ slice_get pages i) next (sym (is.forward b (omega (arith, low))))

    -- where no page behind the forward ones is sealed, all that are sealed are the first ones of the work
    pub first_pages : length sealed ≤ 1 + block_count (count_of columns) → (others : List Page) → IsSealed others bytes
        → take (length others) pages ≡ others
    first_pages few others sealed_there =
        subst (λ ps. take (length ps) pages ≡ ps) (sealed_are others sealed_there)
        (first_places sealed pages (λ i l. same_place i l (omega (arith, l, few, count_are, our_blocks params columns of bytes sealed ours suit))))

    -- where all forward pages are sealed, these are the first ones
    pub forward_first : 1 + block_count (count_of columns) ≤ length sealed → (others : List Page) → IsSealed others bytes → (i : ℕ)
        → i < 1 + block_count (count_of columns) → slice_get others i ≡ slice_get pages i
    forward_first all others sealed_there i l =
        subst (λ ps. slice_get ps i ≡ slice_get pages i) (sealed_are others sealed_there)
        (same_place i (omega (arith, l, all)) (omega (arith, l, all, count_are, our_blocks params columns of bytes sealed ours suit)))
