-- The pages of the blocks that were sealed are those of the rows kept, and beside these rows stands what is recorded.
use Rattle.std.specs.Prelude.{◌≡◌, ℕ, zero, suc, ◌+◌, ◌-◌, ◌*◌, ◌/◌, ◌<◌, ◌≤◌, Bool, true, Some, List, [], ◌∷◌, ◌++◌, ◌%◌, length, take, drop, slice_get, get_or, unwrap_or}
use Rattle.std.specs.List.{Contains}
use Rattle.std.specs.List.Sorted.{IsStrictlySortedBy}
use Rattle.std.specs.Ordering.{nat_cmp}
use Rattle.std.specs.Cmp.{IsTotalOrder, tied_itself, nat_cmp_is}
use Rattle.std.specs.declared.cmp.Ordering.TheVariants.{Less, Equal}
use Rattle.std.proofs.Common.{refl, sym, ◌∙◌, ap, subst, inl, inr, arith, get_or-take, get_or-drop, length-take-le, length-drop}
use Rattle.std.proofs.lemmas.Bool.{cases_lt}
use Rattle.std.proofs.lemmas.Cmp.{nat_cmp_total}
use Rattle.std.proofs.Math.ListN.{get_or-map}
use Rattle.std.proofs.lemmas.List.{length-map, get_or_default}
use Rattle.std.proofs.lemmas.Option.{slice_get_within, get_or_from_slice_get}
use Rattle.column_order.specs.Columns.{ColumnList}
use Rattle.column_order.proofs.Distinct.{same_sorted}
use Rattle.sparse_rows.specs.Entries.{IsRow, AllIn}
use Rattle.echelon.specs.Lists.{entries_of, row_at}
use Rattle.table_model.specs.ListedSpan.{count_of, relation_count}
use Rattle.table_model.specs.ReducedRows.{IsForwardRow}
use Rattle.page_codec.specs.declared.params.Params.{Params}
use Rattle.page_codec.specs.declared.parts.ForwardEntry.{ForwardEntry}
use Rattle.page_codec.specs.declared.page.Page.{Page}
use Rattle.page_codec.specs.Places.{AreBelow, FitsPlace, FitBehind, ForwardInTable}
use Rattle.page_rows.specs.Written.{written}
use Rattle.file_model.specs.Pages.{IsPairs, IsRecorded, IsForwardBlock, forward_page, numbers_of}
use Rattle.file_model.proofs.ListPlaces.{all_from_get, all_contains, contained_at}
use Rattle.file_model.proofs.WrittenRows.{pairs_unique}
use Rattle.table_build.specs.Inner.{Course, HasOffered, AreRising, IsRun, between, sealed_combination, AreKeptEntries, AllKept}
use Rattle.table_build.proofs.SealedRows.{taken, block_of, sealed_recorded}
use Rattle.table_build.proofs.WrittenEntries.{written_pairs}

not_below_itself : (x : ℕ) → ¬ (nat_cmp x x ≡ Less)
not_below_itself x e = let i : nat_cmp x x ≡ Equal = tied_itself nat_cmp_total x in let n : Equal ≡ Less = sym i ∙ e in cc

pub rising_sorted : (xs : List ℕ) → AreRising xs → IsStrictlySortedBy nat_cmp xs
unfolding IsStrictlySortedBy
rising_sorted [] h = tt
rising_sorted (x ∷ xs) h = (
  all_from_get (λ y. nat_cmp x y ≡ Less) xs (λ k y at.
      let l : k < length xs = slice_get_within xs k y at in
      let less : x < y = subst (λ z. x < z) (get_or_from_slice_get xs k y 0 at) (h 0 (suc k) (omega arith) (omega (arith, l))) in
      sym (nat_cmp_is x y Less (omega (arith, less)))),
  rising_sorted xs (λ i k l lk. h (suc i) (suc k) (omega arith) (omega (arith, lk))),
)

pub same_sets : (xs ys : List ℕ) → IsStrictlySortedBy nat_cmp xs → IsStrictlySortedBy nat_cmp ys → ((z : ℕ) → Contains xs z → Contains ys z)
    → ((z : ℕ) → Contains ys z → Contains xs z) → xs ≡ ys
same_sets xs ys sx sy f g = let t : IsTotalOrder nat_cmp = nat_cmp_total in same_sorted nat_cmp not_below_itself t.trans xs ys sx sy f g

pub between_at : {A : Type 0} (done end : ℕ) (xs : List A) (i : ℕ) (d : A) → i < end - done → get_or (between done end xs) i d ≡ get_or xs (done + i) d
between_at done end xs i d l = get_or-take (end - done) (drop done xs) i d l ∙ get_or-drop done xs i d

pub between_length : {A : Type 0} (done end : ℕ) (xs : List A) → end ≤ length xs → length (between done end xs) ≡ end - done
between_length done end xs l = length-take-le (end - done) (drop done xs) (omega (arith, length-drop done xs))

-- each page of a file fits behind some pages
pub fits_some : (p : Params) (n : ℕ) (before ps : List Page) (i : ℕ) (page : Page) → FitBehind p n before ps → slice_get ps i ≡ Some page
    → (front : List Page) × FitsPlace p n front page
fits_some p n before [] i page fit at = absurd (let none : _ = at in cc)
fits_some p n before (x ∷ xs) zero page fit at = (before, subst (FitsPlace p n before) (let e : x ≡ page = cc in e) fit.0)
fits_some p n before (x ∷ xs) (suc i) page fit at = fits_some p n (before ++ x ∷ []) xs i page fit.1 at

module _ {E : Type 0} (zero_element : E) (has : E → Bool) (value : E → ℕ) (course : Course) (columns : ColumnList) (n : ℕ) (numbers : List ℕ)
    (rows : List (List (ℕ × E))) (offered : HasOffered course.params.modulus value columns course n numbers rows) (blocks : ℕ) (low : n ≤ count_of columns)
    (cover : (b : ℕ) → b < blocks → 64 * b < count_of columns)
    (reach : (b k : ℕ) → b < blocks → k < 64 * b + 64 → k < count_of columns → k < n) where
  abbrev m : ℕ
  m = course.params.modulus

  -- beside each row kept stands what is recorded for it
  pub recorded_at : (k : ℕ) → blocks < k → (i : ℕ) → i < length numbers → get_or numbers i 0 < 64 * blocks
      → IsRecorded m columns course.work (suc (get_or numbers i 0)) (row_at value rows i) (sealed_combination (take k course.pages) (get_or numbers i 0))
  recorded_at k inside i l below =
      let is = offered.is_course in
      let x : ℕ = get_or numbers i 0 in
      let (accepted, before) = (offered.accepted x).0 (i, l, refl) in
      sealed_recorded course.params columns course.work is.is_work is.are_columns is.converts course.pages is.are_pages k x (row_at value rows i)
      (omega (arith, inside, below)) (λ j lj few. offered.unbroken j (reach (x / 64) j (omega (arith, below)) lj few)) accepted (omega (arith, before, low))
      (offered.forward i l)

  module _ (has_zero : has zero_element ≡ true) (value_zero : value zero_element ≡ 0)
      (value_injective : (a b : E) → has a ≡ true → has b ≡ true → value a ≡ value b → a ≡ b) (value_below : (a : E) → has a ≡ true → value a < m)
      (rising : AreRising numbers) (in_ring : (i : ℕ) → i < length rows → AllIn has (get_or rows i [])) where
    module _ (b done end : ℕ) (l : b < blocks) (run : IsRun numbers b done end) (es : List ForwardEntry)
        (block : IsForwardBlock m columns course.work b es) where
      -- the places of the run are those of the numbers of the block
      from_entries : (z : ℕ) → Contains (numbers_of es) z → Contains (between done end numbers) z
      from_entries z c =
          let (accepted, from, to, few) = (block.whole z).0 c in
          let (i, li, at) = (offered.accepted z).1 (accepted, reach b z l to few) in
          let low : done ≤ i = elim (cases_lt i done) [
            | inl early ↦ absurd (omega (arith, run.before i early, at, from))
            | inr late ↦ late
          ] in
          let high : i < end = elim (cases_lt i end) [
            | inl early ↦ early
            | inr late ↦ absurd (omega (arith, run.behind i late li, at, to))
          ] in
          let place : i - done < end - done = omega (arith, low, high) in (
            i - done,
            omega (arith, place, between_length done end numbers run.within),
            between_at done end numbers (i - done) z place ∙ ap (λ j. get_or numbers j z) (let e : done + (i - done) ≡ i = omega (arith, low) in e)
                ∙ get_or_default numbers i z 0 li ∙ at,
          )

      to_entries : (z : ℕ) → Contains (between done end numbers) z → Contains (numbers_of es) z
      to_entries z (j, lj, at) =
          let place : j < end - done = omega (arith, lj, between_length done end numbers run.within) in
          let inside : done + j < length numbers = omega (arith, place, run.within) in
          let is : get_or numbers (done + j) 0 ≡ z =
          sym (get_or_default numbers (done + j) z 0 inside) ∙ sym (between_at done end numbers j z place) ∙ at in
          let (accepted, before) = (offered.accepted z).0 (done + j, inside, is) in
          let in_block : z / 64 ≡ b = ap (λ x. x / 64) (sym is) ∙ run.inside (done + j) (omega arith) (omega (arith, place)) in
          (block.whole z).1 (accepted, omega (arith, in_block), omega (arith, in_block), omega (arith, before, low))

      between_rising : AreRising (between done end numbers)
      between_rising i k lk lt =
          let place : k < end - done = omega (arith, lt, between_length done end numbers run.within) in
          let first = between_at done end numbers i 0 (omega (arith, lk, place)) in
          let then = between_at done end numbers k 0 place in
          let step : get_or numbers (done + i) 0 < get_or numbers (done + k) 0 =
          rising (done + i) (done + k) (omega (arith, lk)) (omega (arith, place, run.within)) in
          omega (arith, first, then, step)

      numbers_are : numbers_of es ≡ between done end numbers
      numbers_are = same_sets (numbers_of es) (between done end numbers) block.increasing (rising_sorted (between done end numbers) between_rising)
          from_entries to_entries

      count_is : length es ≡ length (between done end numbers)
      count_is = sym (length-map es (λ (e : ForwardEntry). e.number)) ∙ ap length numbers_are

      number_at : (i : ℕ) (e : ForwardEntry) → slice_get es i ≡ Some e → e.number ≡ get_or (between done end numbers) i 0
      number_at i e at =
          let number : ForwardEntry → ℕ = λ e. e.number in
          let inside : i < length (between done end numbers) = omega (arith, slice_get_within es i e at, count_is) in
          ap number (sym (get_or_from_slice_get es i e e at)) ∙ sym (get_or-map number es i e) ∙ ap (λ xs. get_or xs i (number e)) numbers_are
          ∙ get_or_default (between done end numbers) i (number e) 0 inside

      row_at_place : (i : ℕ) (e : ForwardEntry) → slice_get es i ≡ Some e → IsRow (λ k. k) zero_element 0 (get_or (between done end rows) i [])
          → e.row ≡ written value (get_or (between done end rows) i [])
      row_at_place i e at is_row =
          let place : i < end - done = omega (arith, slice_get_within es i e at, count_is, between_length done end numbers run.within) in
          let inside : done + i < length numbers = omega (arith, place, run.within) in
          let row : List (ℕ × E) = get_or (between done end rows) i [] in
          let row_is : row ≡ get_or rows (done + i) [] = between_at done end rows i [] place in
          let number_is : e.number ≡ get_or numbers (done + i) 0 = number_at i e at ∙ between_at done end numbers i 0 place in
          let forward : IsForwardRow m columns course.work.sums e.number (row_at value rows (done + i)) =
          subst (λ x. IsForwardRow m columns course.work.sums x (row_at value rows (done + i))) (sym number_is) (offered.forward (done + i) inside) in
          let is_written = block.rows i e at (row_at value rows (done + i)) forward in
          let is = offered.is_course in
          let table = let t = is.are_columns in t.table in
          let all : AllIn has row = subst (AllIn has) (sym row_is) (in_ring (done + i) (omega (arith, inside, offered.count))) in
          let pairs : IsPairs m (entries_of value row) (written value row) =
          written_pairs m zero_element has value has_zero value_zero value_injective value_below row (omega (arith, table.modulus)) is_row all in
          pairs_unique m (row_at value rows (done + i)) (entries_of value row) e.row (written value row)
          (λ q. ap (λ es. entries_of value es q % m) (sym row_is)) is_written.is_row pairs

      fits_at : (stands : slice_get course.pages (suc b) ≡ Some (forward_page (64 * b) es)) (i : ℕ) (e : ForwardEntry) → slice_get es i ≡ Some e
          → AreBelow (get_or (between done end numbers) i 0 + 1) m e.combination
      fits_at stands i e at =
          let is = offered.is_course in
          let N : ℕ = relation_count course.params.weight course.params.depth in
          let (front, place) = fits_some course.params N [] course.pages (suc b) (forward_page (64 * b) es) is.fit stands in
          let held : ForwardInTable course.params N e =
          all_contains (ForwardInTable course.params N) es place.entries e (contained_at es i e at) in
          subst (λ x. AreBelow (x + 1) m e.combination) (number_at i e at) held.combination

      kept_entries : slice_get course.pages (suc b) ≡ Some (forward_page (64 * b) es)
          → AreKeptEntries m zero_element value (between done end numbers) (between done end rows) es
      kept_entries stands = record {
        count = count_is;
        each = λ i e at. record { number_is = number_at i e at; row_is = row_at_place i e at; fits = fits_at stands i e at };
      }

    -- the pages of the blocks are those of the rows kept
    pub all_kept : (k : ℕ) → blocks < k → AllKept m zero_element value blocks numbers rows (take k course.pages)
    all_kept k inside b done end l run some page at =
        let is = offered.is_course in
        let (es, stands, block) = block_of course.params columns course.work is.is_work is.are_columns is.converts course.pages is.are_pages b (cover b l)
        (λ j lj few. offered.unbroken j (reach b j l lj few)) in
        let same : Some page ≡ Some (forward_page (64 * b) es) =
        sym at ∙ taken k (1 + b) course.pages (omega (arith, inside, l)) ∙ ap (slice_get course.pages) (let z : 1 + b ≡ suc b = omega arith in z) ∙ stands in
        record {
          entries = es;
          page_is = ap (λ o. unwrap_or o page) same;
          are_kept = kept_entries b done end l run es block stands;
        }
