-- The page of a block: what is made for its rows is what is recorded for them, so it is the page of the work.
use Rattle.std.specs.Prelude.{◌≡◌, ℕ, zero, suc, ◌+◌, ◌-◌, ◌*◌, ◌%◌, ◌<◌, ◌≤◌, Bool, true, nat_lt, if◌then◌else◌, Option, Some, None, IfSome, List, [], ◌++◌, length, take, slice_get, get_or}
use Rattle.std.specs.List.{Contains, AllByRecursion}
use Rattle.std.specs.List.Sorted.{IsStrictlySortedBy}
use Rattle.std.specs.Ordering.{nat_cmp}
use Rattle.std.proofs.Common.{refl, sym, ◌∙◌, ap, subst, inl, inr, arith}
use Rattle.std.proofs.lemmas.Bool.{cases_lt, lt-ltb, le-ltb}
use Rattle.std.proofs.Math.ListN.{get_or-map}
use Rattle.std.proofs.lemmas.List.{same_lists, length-map, length-append, get_or_append_left, get_or-append-add, get_or_default}
use Rattle.std.proofs.lemmas.Option.{slice_get-get_or, slice_get_within}
use Rattle.outside_io.specs.Traces.{Trace}
use Rattle.linear_model.specs.Rows.{combination, SameRow}
use Rattle.column_order.specs.Columns.{ColumnList}
use Rattle.echelon.specs.Lists.{entries_of, row_at}
use Rattle.echelon.specs.Offers.{used_at}
use Rattle.echelon.specs.States.{AllIns}
use Rattle.table_model.specs.ListedSpan.{count_of}
use Rattle.table_model.specs.ReducedRows.{IsAccepted, IsForwardRow}
use Rattle.table_model.proofs.ForwardRowLaws.{forward_row_unique}
use Rattle.page_codec.specs.declared.parts.ForwardEntry.{ForwardEntry}
use Rattle.page_codec.specs.declared.page.Page.{Page}
use Rattle.page_codec.specs.Bounds.{IsPage}
use Rattle.page_file.specs.Files.{IsSealed}
use Rattle.page_rows.specs.Written.{written}
use Rattle.file_model.specs.Pages.{IsPairs, IsWritten, IsRecorded, IsForwardBlock, forward_page, numbers_of}
use Rattle.file_model.proofs.Recorded.{written_recorded}
use Rattle.file_model.proofs.NextPages.{next_forward}
use Rattle.table_build.specs.Inner.{Course, AreRows, AreSums, IsBlock, IsEntryOf, IsPageOfRows, Holds, AllKept, sealed_combination}
use Rattle.file_model.proofs.Recorded.{recorded_same}
use Rattle.table_build.proofs.AddedInTurn.{total_parts, alike_below}
use Rattle.table_build.proofs.WrittenEntries.{written_pairs}
use Rattle.table_build.proofs.SealedRows.{recorded_later}
use Rattle.table_build.proofs.SealSteps.{held_sealed}
use Rattle.table_build.proofs.KeptBlocks.{rising_sorted, recorded_at, all_kept}

-- the first ones are those of one list, and those behind them of another
abbrev pub glued : ℕ → (ℕ → ℕ → ℕ) → (ℕ → ℕ → ℕ) → ℕ → ℕ → ℕ
glued first a b i = if nat_lt i first then a i else b (i - first)

pub glued_front : (first : ℕ) (a b : ℕ → ℕ → ℕ) (i : ℕ) → i < first → glued first a b i ≡ a i
glued_front first a b i l = ap (λ t. if t then a i else b (i - first)) (lt-ltb i first l)

pub glued_behind : (first : ℕ) (a b : ℕ → ℕ → ℕ) (i : ℕ) → glued first a b (first + i) ≡ b i
glued_behind first a b i = ap (λ t. if t then a (first + i) else b (first + i - first)) (le-ltb (first + i) first (omega arith))
    ∙ ap b (let e : first + i - first ≡ i = omega arith in e)

-- what is told of the combinations of a block: the start of each, plus the sealed ones, plus those before it
abbrev pub AreCombined : {E : Type 0} → ℕ → (E → ℕ) → List ℕ → List ℕ → List (List (ℕ × E)) → List (List (ℕ × E)) → List (List (ℕ × E)) → List Page → Type 0
AreCombined m value numbers more_numbers uses starts made pages = (j : ℕ) → j < length more_numbers → SameRow m (row_at value made j)
    (λ q. row_at value starts j q + combination (length numbers) (λ i. sealed_combination pages (get_or numbers i 0))
    (used_at value numbers (get_or uses j [])) q
    + combination j (row_at value made) (used_at value more_numbers (get_or uses j [])) q)

module _ {E : Type 0} (zero_element : E) (has : E → Bool) (value : E → ℕ) (course : Course) (columns : ColumnList) (block : ℕ)
    (numbers : List ℕ) (rows : List (List (ℕ × E))) (more_numbers : List ℕ) (more_rows uses starts made : List (List (ℕ × E))) (told : Option Trace)
    (is : IsBlock course.params.modulus value columns course block numbers rows more_numbers more_rows uses starts told)
    (sealed_rows : AreRows has (64 * block) numbers rows) (new_rows : AreRows has (64 * block + 64) more_numbers more_rows)
    (behind : (i : ℕ) → i < length more_numbers → 64 * block ≤ get_or more_numbers i 0) (sums : AreSums has (length more_numbers) uses starts) where
  abbrev m : ℕ
  m = course.params.modulus

  abbrev first : ℕ
  first = length numbers

  abbrev all_numbers : List ℕ
  all_numbers = numbers ++ more_numbers

  abbrev all_rows : List (List (ℕ × E))
  all_rows = rows ++ more_rows

  number_behind : (i : ℕ) → get_or all_numbers (first + i) 0 ≡ get_or more_numbers i 0
  number_behind i = get_or-append-add numbers more_numbers i 0

  row_behind : (i : ℕ) → get_or all_rows (first + i) [] ≡ get_or more_rows i []
  row_behind i = ap (λ k. get_or all_rows (k + i) []) (sym sealed_rows.count) ∙ get_or-append-add rows more_rows i []

  module _ (k : ℕ) (inside : block < k) (combined : AreCombined m value numbers more_numbers uses starts made (take k course.pages)) where
    abbrev sealed : ℕ → ℕ → ℕ
    sealed i = sealed_combination (take k course.pages) (get_or numbers i 0)

    abbrev all : ℕ → ℕ → ℕ
    all = glued first sealed (row_at value made)

    sealed_at : (i : ℕ) → i < first → IsRecorded m columns course.work (suc (get_or numbers i 0)) (row_at value rows i) (sealed i)
    sealed_at i l = recorded_at zero_element has value course columns (64 * block) numbers rows is.before block (let few = is.some in omega (arith, few))
        (λ b lb. let few = is.some in omega (arith, few, lb)) (λ b j lb lj few. omega (arith, lb, lj)) k inside i l (sealed_rows.below i l)

    -- row j of the block is recorded with what was made for it
    abbrev IsMade : ℕ → Type 0
    IsMade j = IsRecorded m columns course.work (suc (get_or more_numbers j 0)) (row_at value more_rows j) (row_at value made j)

    earlier : (n : ℕ) → n < length more_numbers → ((j : ℕ) → j < n → IsMade j) → (i : ℕ) → i < first + n
        → IsRecorded m columns course.work (suc (get_or all_numbers (first + n) 0)) (row_at value all_rows i) (all i)
    earlier n l before i li = elim (cases_lt i first) [
      | inl front ↦
          let x : ℕ = get_or numbers i 0 in
          let y : ℕ = get_or all_numbers (first + n) 0 in
          let low : suc x ≤ suc y = omega (arith, sealed_rows.below i front, behind n l, number_behind n) in
          let row_is : get_or all_rows i [] ≡ get_or rows i [] = get_or_append_left rows more_rows [] i (omega (arith, front, sealed_rows.count)) in
          recorded_same m columns course.work (suc y) (row_at value rows i) (row_at value all_rows i) (sealed i) (all i)
          (λ q. ap (λ es. entries_of value es q % m) (sym row_is)) (λ q. ap (λ f. f q % m) (sym (glued_front first sealed (row_at value made) i front)))
          (recorded_later m columns course.work (suc x) (suc y) (row_at value rows i) (sealed i) low (sealed_at i front))
      | inr late ↦
          let j : ℕ = i - first in
          let lj : j < n = omega (arith, li, late) in
          let x : ℕ = get_or more_numbers j 0 in
          let y : ℕ = get_or all_numbers (first + n) 0 in
          let low : suc x ≤ suc y = omega (arith, new_rows.rising j n lj l, number_behind n) in
          let here : IsRecorded m columns course.work (suc y) (row_at value all_rows (first + j)) (all (first + j)) =
          recorded_same m columns course.work (suc y) (row_at value more_rows j) (row_at value all_rows (first + j)) (row_at value made j) (all (first + j))
          (λ q. ap (λ es. entries_of value es q % m) (sym (row_behind j))) (λ q. ap (λ f. f q % m) (sym (glued_behind first sealed (row_at value made) j)))
          (recorded_later m columns course.work (suc x) (suc y) (row_at value more_rows j) (row_at value made j) low (before j lj)) in
          subst (λ t. IsRecorded m columns course.work (suc y) (row_at value all_rows t) (all t)) (let e : first + j ≡ i = omega (arith, late) in e) here
    ]

    parts : (n q : ℕ) → combination (first + n) all (used_at value all_numbers (get_or uses n [])) q
        ≡ combination first sealed (used_at value numbers (get_or uses n [])) q + combination n (row_at value made)
        (used_at value more_numbers (get_or uses n [])) q
    parts n q =
        let w : List (ℕ × E) = get_or uses n [] in
        let u : ℕ → ℕ = used_at value all_numbers w in
        total_parts first n (λ i. u i * all i q)
        ∙ (λ z. alike_below first (λ i. u i * all i q) (λ i. used_at value numbers w i * sealed i q)
        (λ i l. λ y. entries_of value w (get_or_append_left numbers more_numbers 0 i l y) * glued_front first sealed (row_at value made) i l y q) z
        + alike_below n (λ i. u (first + i) * all (first + i) q) (λ i. used_at value more_numbers w i * row_at value made i q)
        (λ i l. λ y. entries_of value w (number_behind i y) * glued_behind first sealed (row_at value made) i y q) z)

    next_made : (n : ℕ) → n < length more_numbers → ((j : ℕ) → j < n → IsMade j) → IsMade n
    next_made n l before =
        let y : ℕ = get_or all_numbers (first + n) 0 in
        let u : ℕ → ℕ = used_at value all_numbers (get_or uses n []) in
        let sum : IsRecorded m columns course.work (suc y) (row_at value all_rows (first + n))
        (λ q. row_at value starts n q + combination (first + n) all u q) =
        is.fresh n (omega (arith, l, sums.uses_count)) all (earlier n l before) in
        let same : SameRow m (λ q. row_at value starts n q + combination (first + n) all u q) (row_at value made n) = λ q.
        ap (λ x. x % m) (ap (λ x. row_at value starts n q + x) (parts n q)
        ∙ (let e : row_at value starts n q + (combination first sealed (used_at value numbers (get_or uses n [])) q
        + combination n (row_at value made) (used_at value more_numbers (get_or uses n [])) q)
        ≡ row_at value starts n q + combination first sealed (used_at value numbers (get_or uses n [])) q
        + combination n (row_at value made) (used_at value more_numbers (get_or uses n [])) q = omega arith in e))
        ∙ sym (combined n l q) in
        subst (λ x. IsRecorded m columns course.work (suc x) (row_at value more_rows n) (row_at value made n)) (number_behind n)
        (recorded_same m columns course.work (suc y) (row_at value all_rows (first + n)) (row_at value more_rows n)
        (λ q. row_at value starts n q + combination (first + n) all u q) (row_at value made n)
        (λ q. ap (λ es. entries_of value es q % m) (row_behind n)) same sum)

    made_below : (n : ℕ) → n ≤ length more_numbers → (j : ℕ) → j < n → IsMade j
    made_below zero l j lj = absurd (omega arith)
    made_below (suc n) l j lj = elim (cases_lt j n) [
      | inl less ↦ made_below n (omega (arith, l)) j less
      | inr late ↦ subst IsMade (let e : n ≡ j = omega (arith, lj, late) in e) (next_made n (omega (arith, l)) (made_below n (omega (arith, l))))
    ]

    module _ (has_zero : has zero_element ≡ true) (value_zero : value zero_element ≡ 0)
        (value_injective : (a b : E) → has a ≡ true → has b ≡ true → value a ≡ value b → a ≡ b) (value_below : (a : E) → has a ≡ true → value a < m)
        (in_ring : AllIns has made) (count : length made ≡ length more_numbers) (es : List ForwardEntry) (size : length es ≡ length more_numbers)
        (each : (i : ℕ) (e : ForwardEntry) → slice_get es i ≡ Some e → IsEntryOf zero_element value (get_or more_numbers i 0) (get_or more_rows i [])
        (get_or made i []) e)
      where
        numbers_are : numbers_of es ≡ more_numbers
        numbers_are = same_lists (numbers_of es) more_numbers (length-map es (λ (e : ForwardEntry). e.number) ∙ size) (λ i d l.
            let none : ForwardEntry = record { number = d; row = []; combination = [] } in
            let li : i < length es = omega (arith, l, length-map es (λ (e : ForwardEntry). e.number)) in
            let there = each i (get_or es i none) (slice_get-get_or es i none li) in
            get_or-map (λ (e : ForwardEntry). e.number) es i none ∙ there.number_is ∙ get_or_default more_numbers i 0 d (omega (arith, li, size)))

        whole_to : (n : ℕ) → Contains more_numbers n → IsAccepted m columns course.work.sums n × (64 * block ≤ n) × (n < 64 * block + 64)
            × (n < count_of columns)
        whole_to n (i, l, at) =
            let here : get_or more_numbers i 0 ≡ n = sym (get_or_default more_numbers i n 0 l) ∙ at in
            let offered = is.offered in
            let (accepted, below) = (offered.accepted n).0 (first + i, omega (arith, l, length-append numbers more_numbers), number_behind i ∙ here) in
            (accepted, omega (arith, behind i l, here), omega (arith, below), omega (arith, below))

        whole_from : (n : ℕ) → IsAccepted m columns course.work.sums n × (64 * block ≤ n) × (n < 64 * block + 64) × (n < count_of columns)
            → Contains more_numbers n
        whole_from n (accepted, from, to, few) =
            let offered = is.offered in
            let (i, l, at) = (offered.accepted n).1 (accepted, omega (arith, to, few)) in
            elim (cases_lt i first) [
              | inl front ↦ absurd (omega (arith, sealed_rows.below i front, get_or_append_left numbers more_numbers 0 i front, at, from))
              | inr late ↦
                  let j : ℕ = i - first in
                  let lj : j < length more_numbers = omega (arith, l, late, length-append numbers more_numbers) in
                  let there : get_or more_numbers j 0 ≡ n =
                  sym (number_behind j) ∙ ap (λ t. get_or all_numbers t 0) (let e : first + j ≡ i = omega (arith, late) in e) ∙ at in
                  (j, lj, get_or_default more_numbers j n 0 lj ∙ there)
            ]

        written_row : (i : ℕ) (e : ForwardEntry) → slice_get es i ≡ Some e → (p : ℕ → ℕ) → IsForwardRow m columns course.work.sums e.number p
            → IsWritten m columns course.work (suc e.number) p e.row e.combination
        written_row i e at p forward =
            let l : i < length more_numbers = omega (arith, slice_get_within es i e at, size) in
            let offered = is.offered in
            let known = offered.is_course in
            let table = let t = known.are_columns in t.table in
            let work = known.is_work in
            let big : 0 < m = omega (arith, table.modulus) in
            let entry = each i e at in
            let row : ℕ → ℕ = row_at value more_rows i in
            let number : get_or all_numbers (first + i) 0 ≡ e.number = number_behind i ∙ sym entry.number_is in
            let own : IsForwardRow m columns course.work.sums e.number row =
            subst (λ x. IsForwardRow m columns course.work.sums x row) number
            (subst (λ (es : List (ℕ × E)). IsForwardRow m columns course.work.sums (get_or all_numbers (first + i) 0) (entries_of value es)) (row_behind i)
            (offered.forward (first + i) (omega (arith, l, length-append numbers more_numbers)))) in
            let same : SameRow m row p =
            forward_row_unique m columns table course.work.sums work.sums known.converts e.number row p own forward in
            let pairs : IsPairs m row (written value (get_or more_rows i [])) =
            written_pairs m zero_element has value has_zero value_zero value_injective value_below (get_or more_rows i []) big entry.is_row
            (new_rows.in_ring i (omega (arith, l, new_rows.count))) in
            let combination_pairs : IsPairs m (row_at value made i) (written value (get_or made i [])) =
            written_pairs m zero_element has value has_zero value_zero value_injective value_below (get_or made i []) big entry.is_combination
            (in_ring i (omega (arith, l, count))) in
            let recorded : IsRecorded m columns course.work (suc e.number) row (row_at value made i) =
            subst (λ x. IsRecorded m columns course.work (suc x) row (row_at value made i)) (sym entry.number_is)
            (made_below (length more_numbers) (omega arith) i l) in
            written_recorded m columns course.work (suc e.number) p (row_at value made i) e.row e.combination
            (recorded_same m columns course.work (suc e.number) row p (row_at value made i) (row_at value made i) same (λ q. refl) recorded)
            (subst (IsPairs m p) (sym entry.row_is) (record { row = pairs.row; residues = λ q. sym (same q) ∙ pairs.residues q }))
            (subst (IsPairs m (row_at value made i)) (sym entry.combination_is) combination_pairs)

        block_is : IsForwardBlock m columns course.work block es
        block_is = record {
          increasing = subst (IsStrictlySortedBy nat_cmp) (sym numbers_are) (rising_sorted more_numbers new_rows.rising);
          whole = λ n. (
            λ c. whole_to n (subst (λ xs. Contains xs n) numbers_are c),
            λ h. subst (λ xs. Contains xs n) (sym numbers_are) (whole_from n h),
          );
          rows = written_row;
        }

        -- so the page is the next one of the work
        pub next_page : slice_get course.pages (suc block) ≡ Some (forward_page (64 * block) es)
        next_page =
            let offered = is.offered in
            let known = offered.is_course in
            next_forward course.params columns course.work known.is_work known.are_columns known.converts block is.some course.pages known.are_pages
            (λ j lj few. offered.unbroken j (omega (arith, lj, few))) es block_is

-- the same where the modulus is known by another name
module _ {E : Type 0} (m : ℕ) (zero_element : E) (has : E → Bool) (value : E → ℕ) (has_zero : has zero_element ≡ true) (value_zero : value zero_element ≡ 0)
    (value_injective : (a b : E) → has a ≡ true → has b ≡ true → value a ≡ value b → a ≡ b) (value_below : (a : E) → has a ≡ true → value a < m)
    (course : Course) (columns : ColumnList) (block : ℕ) (numbers : List ℕ) (rows : List (List (ℕ × E))) (more_numbers : List ℕ)
    (more_rows uses starts : List (List (ℕ × E))) (told : Option Trace)
    (is : IsBlock m value columns course block numbers rows more_numbers more_rows uses starts told) (sealed_rows : AreRows has (64 * block) numbers rows) where
  own_modulus : course.params.modulus ≡ m
  own_modulus = let before = is.before in let known = before.is_course in known.modulus

  pub block_stands : (made : List (List (ℕ × E))) (page : Page) → AreRows has (64 * block + 64) more_numbers more_rows
      → ((i : ℕ) → i < length more_numbers → 64 * block ≤ get_or more_numbers i 0) → AreSums has (length more_numbers) uses starts → AllIns has made
      → length made ≡ length more_numbers → IsPageOfRows zero_element value block more_numbers more_rows made page
      → AreCombined m value numbers more_numbers uses starts made (take (1 + block) course.pages) → slice_get course.pages (1 + block) ≡ Some page
  block_stands made page new_rows behind sums in_ring count page_is combined =
      let at : slice_get course.pages (suc block) ≡ Some (forward_page (64 * block) page_is.entries) =
      subst (λ x. ((a : E) → has a ≡ true → value a < x) → IsBlock x value columns course block numbers rows more_numbers more_rows uses starts told
      → AreCombined x value numbers more_numbers uses starts made (take (1 + block) course.pages)
      → slice_get course.pages (suc block) ≡ Some (forward_page (64 * block) page_is.entries)) own_modulus
      (λ below own sums_are. next_page zero_element has value course columns block numbers rows more_numbers more_rows uses starts made told own sealed_rows
      new_rows behind sums (1 + block) (omega arith) sums_are has_zero value_zero value_injective below in_ring count page_is.entries page_is.count
      page_is.each)
      value_below is combined in
      ap (slice_get course.pages) (let z : 1 + block ≡ suc block = omega arith in z) ∙ at ∙ ap Some (sym page_is.page_is)

  pub block_kept : AllKept m zero_element value block numbers rows (take (1 + block) course.pages)
  block_kept = subst (λ x. ((a : E) → has a ≡ true → value a < x) → IsBlock x value columns course block numbers rows more_numbers more_rows uses starts told
      → AllKept x zero_element value block numbers rows (take (1 + block) course.pages)) own_modulus
      (λ below own. let few = own.some in all_kept zero_element has value course columns (64 * block) numbers rows own.before block (omega (arith, few))
      (λ b lb. omega (arith, few, lb)) (λ b j lb lj _. omega (arith, lb, lj)) has_zero value_zero value_injective below sealed_rows.rising sealed_rows.in_ring
      (1 + block) (omega arith))
      value_below is

  -- so it is where the disk tells
  pub next_told : (made : List (List (ℕ × E))) (page : Page) → AreRows has (64 * block + 64) more_numbers more_rows
      → ((i : ℕ) → i < length more_numbers → 64 * block ≤ get_or more_numbers i 0) → AreSums has (length more_numbers) uses starts → AllIns has made
      → length made ≡ length more_numbers → IsPageOfRows zero_element value block more_numbers more_rows made page
      → (o : Option Trace) → Holds course.pages (1 + block) o
      → IfSome o (λ t. (pages : List Page) → IsSealed pages t.now.contents → AreCombined m value numbers more_numbers uses starts made pages)
      → IfSome o (λ t. slice_get course.pages (1 + block) ≡ Some page)
  next_told made page new_rows behind sums in_ring count page_is None holds combined = tt
  next_told made page new_rows behind sums in_ring count page_is (Some t) holds combined =
      block_stands made page new_rows behind sums in_ring count page_is (combined (take (1 + block) course.pages)
      (held_sealed course.pages (1 + block) t holds))

  -- over a disk that tells no page of an earlier block is another
  pub kept_untold : (o : Option Trace) → Holds course.pages (1 + block) o
      → IfSome o (λ t. (pages : List Page) → IsSealed pages t.now.contents → ¬ (AllKept m zero_element value block numbers rows pages)) → o ≡ None
  kept_untold None holds other = refl
  kept_untold (Some t) holds other = absurd (other (take (1 + block) course.pages) (held_sealed course.pages (1 + block) t holds) block_kept)

  pub all_pages : AllByRecursion IsPage course.pages
  all_pages = let before = is.before in let known = before.is_course in known.each
