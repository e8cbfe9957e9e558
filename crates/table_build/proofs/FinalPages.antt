-- Final pages: those whose rows have the combinations that are recorded for them are the pages of the work.
use Rattle.std.specs.Prelude.{◌≡◌, ℕ, ◌+◌, ◌-◌, ◌*◌, ◌<◌, ◌≤◌, min, Bool, true, Option, Some, None, IfSome, List, [], length, slice_get, get_or}
use Rattle.std.proofs.Common.{sym, ◌∙◌, ap, subst, arith}
use Rattle.std.proofs.lemmas.Option.{slice_get_within}
use Rattle.outside_io.specs.Traces.{Trace}
use Rattle.column_order.specs.Columns.{ColumnList}
use Rattle.sparse_rows.specs.Entries.{AllIn}
use Rattle.echelon.specs.Lists.{entries_of, row_at, lead_at}
use Rattle.table_model.specs.ListedSpan.{count_of}
use Rattle.page_codec.specs.declared.parts.FinalEntry.{FinalEntry}
use Rattle.page_codec.specs.declared.page.Page.{Page}
use Rattle.page_codec.specs.Bounds.{IsPage}
use Rattle.page_codec.specs.Places.{block_count}
use Rattle.file_model.specs.Pages.{IsPairs, IsWritten, IsRecorded, IsFinalBlock}
use Rattle.file_model.proofs.Recorded.{written_recorded}
use Rattle.file_model.proofs.LastPages.{next_final}
use Rattle.table_build.specs.Inner.{Course, AreFinals, AreReady, AreRecorded, IsGroup, IsPageOfFinals, Holds, between}
use Rattle.table_build.proofs.KeptBlocks.{between_at, between_length}
use Rattle.table_build.proofs.SealSteps.{page_among, told_one, untold}
use Rattle.table_build.proofs.WrittenEntries.{written_pairs}

module _ {E : Type 0} (zero_element : E) (has : E → Bool) (value : E → ℕ) (has_zero : has zero_element ≡ true) (value_zero : value zero_element ≡ 0)
    (value_injective : (a b : E) → has a ≡ true → has b ≡ true → value a ≡ value b → a ≡ b) (course : Course) (columns : ColumnList) (first end : ℕ)
    (finals made : List (List (ℕ × E))) (group : IsGroup has (length finals) first end made) (place : ℕ) (from : first ≤ place) (below : place < end) where
  abbrev start : ℕ
  start = 64 * (place - first)

  abbrev stop : ℕ
  stop = min (length made) (start + 64)

  abbrev own : List (List (ℕ × E))
  own = between start stop made

  own_count : length own ≡ min 64 (length finals - 64 * place)
  own_count = omega (arith, between_length start stop made (omega arith), group.size, group.within, from, below)

  own_at : (i : ℕ) → i < length own → get_or own i [] ≡ get_or made (start + i) []
  own_at i l = between_at start stop made i [] (omega (arith, l, between_length start stop made (omega arith)))

  own_inside : (i : ℕ) → i < length own → start + i < length made
  own_inside i l = omega (arith, l, between_length start stop made (omega arith))

  module _ (value_below : (a : E) → has a ≡ true → value a < course.params.modulus)
      (recorded : AreRecorded course.params.modulus value columns course first finals made) (page : Page)
      (page_is : IsPageOfFinals has zero_element value place finals own page) where
    abbrev m : ℕ
    m = course.params.modulus

    own_recorded : (i : ℕ) → i < length own
        → IsRecorded m columns course.work (count_of columns) (row_at value finals (64 * place + i)) (row_at value own i)
    own_recorded i l =
        let at : 64 * first + (start + i) ≡ 64 * place + i = omega (arith, from) in
        subst (λ (w : List (ℕ × E)). IsRecorded m columns course.work (count_of columns) (row_at value finals (64 * place + i)) (entries_of value w))
        (sym (own_at i l))
        (subst (λ k. IsRecorded m columns course.work (count_of columns) (row_at value finals k) (row_at value made (start + i))) at
        (recorded.each (start + i) (own_inside i l)))

    written_final : (i : ℕ) (e : FinalEntry) → slice_get page_is.entries i ≡ Some e
        → IsWritten m columns course.work (count_of columns) (row_at value finals (64 * place + i)) e.row e.combination
    written_final i e at =
        let l : i < length own = omega (arith, slice_get_within page_is.entries i e at, page_is.count) in
        let known = recorded.is_course in
        let table = let t = known.are_columns in t.table in
        let big : 0 < m = omega (arith, table.modulus) in
        let entry = page_is.each i e at in
        let row : ℕ → ℕ = row_at value finals (64 * place + i) in
        written_recorded m columns course.work (count_of columns) row (row_at value own i) e.row e.combination (own_recorded i l)
        (subst (IsPairs m row) (sym entry.row_is) (written_pairs m zero_element has value has_zero value_zero value_injective value_below
        (get_or finals (64 * place + i) []) big entry.is_row entry.row_in_ring))
        (subst (IsPairs m (row_at value own i)) (sym entry.combination_is) (written_pairs m zero_element has value has_zero value_zero value_injective
        value_below (get_or own i []) big entry.is_combination (own_in_ring i l)))
      where
        own_in_ring : (i : ℕ) → i < length own → AllIn has (get_or own i [])
        own_in_ring i l = subst (AllIn has) (sym (own_at i l)) (group.in_ring (start + i) (own_inside i l))

    next_final_page : slice_get course.pages (1 + block_count (count_of columns) + place) ≡ Some page
    next_final_page =
        let known = recorded.is_course in
        let block : IsFinalBlock m columns course.work (length finals) (row_at value finals) place page_is.entries = record {
          as_many = page_is.count ∙ own_count;
          rows_are = written_final;
        } in
        next_final course.params columns course.work known.is_work known.are_columns known.converts recorded.unbroken (length finals) (lead_at finals)
        (row_at value finals) recorded.reduced course.pages known.are_pages place (omega (arith, below, group.within)) page_is.entries block
        ∙ ap Some (sym page_is.page_is)

  -- the page of a place of a group is that of the work, by whichever name its modulus is known
  pub group_page_stands : (m : ℕ) → ((a : E) → has a ≡ true → value a < m) → AreRecorded m value columns course first finals made → (page : Page)
      → IsPageOfFinals has zero_element value place finals own page → slice_get course.pages (1 + block_count (count_of columns) + place) ≡ Some page
  group_page_stands m value_below recorded page page_is =
      let known = recorded.is_course in
      subst (λ x. ((a : E) → has a ≡ true → value a < x) → AreRecorded x value columns course first finals made
      → slice_get course.pages (1 + block_count (count_of columns) + place) ≡ Some page) known.modulus
      (λ less are. next_final_page less are page page_is) value_below recorded

-- what is no page is none of the work, so the disk does not tell
pub recorded_untold : {E : Type 0} (m : ℕ) (value : E → ℕ) (columns : ColumnList) (course : Course) (first k : ℕ) (finals made : List (List (ℕ × E)))
    (page : Page) (o : Option Trace) → IfSome o (λ t. AreRecorded m value columns course first finals made)
    → IfSome o (λ t. slice_get course.pages k ≡ Some page) → ¬ (IsPage page) → o ≡ None
recorded_untold m value columns course first k finals made page o recorded next isnt =
    untold (λ t. AreRecorded m value columns course first finals made) (λ t. slice_get course.pages k ≡ Some page) o
    (λ t are at. let known = are.is_course in isnt (page_among course.pages k page known.each at)) recorded next

-- the next page, where the disk tells
pub next_told : {E : Type 0} (m : ℕ) (value : E → ℕ) (columns : ColumnList) (course : Course) (blocks first place : ℕ) (finals made : List (List (ℕ × E)))
    (page : Page) (o : Option Trace) → blocks ≡ block_count (count_of columns)
    → (AreRecorded m value columns course first finals made → slice_get course.pages (1 + block_count (count_of columns) + place) ≡ Some page)
    → IfSome o (λ t. AreRecorded m value columns course first finals made) → IfSome o (λ t. slice_get course.pages (1 + blocks + place) ≡ Some page)
next_told m value columns course blocks first place finals made page o all stands recorded =
    told_one (λ t. AreRecorded m value columns course first finals made) (λ t. slice_get course.pages (1 + blocks + place) ≡ Some page) o
    (λ t are. ap (λ b. slice_get course.pages (1 + b + place)) all ∙ stands are) recorded

-- a group is ready where it is made
pub group_ready : {E : Type 0} (m : ℕ) (value : E → ℕ) (columns : ColumnList) (course : Course) (k first : ℕ) (numbers : List ℕ)
    (rows finals uses made : List (List (ℕ × E))) (old mid : Option Trace) → mid ≡ old → AreFinals m value columns course k numbers rows finals uses old
    → IfSome old (λ t. AreRecorded m value columns course first finals made) → AreReady m value columns course k first finals made mid
group_ready m value columns course k first numbers rows finals uses made old mid same are recorded = record {
  holds = subst (Holds course.pages k) (sym same) are.holds;
  recorded = subst (λ o. IfSome o (λ t. AreRecorded m value columns course first finals made)) (sym same) recorded;
}

-- so are the final pages behind it
pub finals_on : {E : Type 0} (m : ℕ) (value : E → ℕ) (columns : ColumnList) (course : Course) (k next : ℕ) (numbers : List ℕ)
    (rows finals uses : List (List (ℕ × E))) (old new : Option Trace) → AreFinals m value columns course k numbers rows finals uses old
    → Holds course.pages next new → AreFinals m value columns course next numbers rows finals uses new
finals_on m value columns course k next numbers rows finals uses old new are holds = record {
  holds = holds;
  finished = are.finished;
  made = are.made;
}
