-- The combinations that are made for final rows are those that the work records for them.
use Rattle.std.specs.Prelude.{◌≡◌, ℕ, suc, ◌+◌, ◌-◌, ◌*◌, ◌/◌, ◌%◌, ◌<◌, ◌≤◌, Bool, true, Option, Some, None, IfSome, List, [], length, take, slice_get, get_or}
use Rattle.std.proofs.Common.{refl, sym, ◌∙◌, ap, subst, arith}
use Rattle.outside_io.specs.Traces.{Trace}
use Rattle.linear_model.specs.Rows.{combination, SameRow}
use Rattle.column_order.specs.Columns.{ColumnList}
use Rattle.echelon.specs.Lists.{entries_of, row_at, lead_at}
use Rattle.echelon.specs.Offers.{used_at}
use Rattle.table_model.specs.ListedSpan.{count_of}
use Rattle.page_codec.specs.declared.page.Page.{Page}
use Rattle.page_codec.specs.declared.page.Page.TheVariants.{Done}
use Rattle.page_codec.specs.Places.{block_count}
use Rattle.page_file.specs.Files.{IsSealed}
use Rattle.page_file.specs.Notes.{Notes, Suits}
use Rattle.page_file.proofs.Reading.{sealed_unique}
use Rattle.file_model.specs.Pages.{IsRecorded}
use Rattle.file_model.specs.Resuming.{combination_in}
use Rattle.file_model.proofs.Recorded.{recorded_same}
use Rattle.file_model.proofs.LastPages.{next_last}
use Rattle.table_build.specs.Inner.{Course, AreRows, AreFinals, AreRecorded, HaveFinals, HasForward, AllKept, Holds, StandsAt, between, entries_on, sealed_combination}
use Rattle.table_build.proofs.AddedInTurn.{alike_below}
use Rattle.table_build.proofs.SealedRows.{recorded_later, taken}
use Rattle.table_build.proofs.SealSteps.{held_sealed, holds_told, told_one}
use Rattle.table_build.proofs.KeptBlocks.{recorded_at, all_kept, between_at}

-- the forward pages are those of the work
abbrev AreAlike : List Page → ℕ → List Page → Type 0
AreAlike pages blocks sealed = (b : ℕ) → b < blocks → slice_get sealed (1 + b) ≡ slice_get pages (1 + b)

-- pages that stand there with all forward pages have these
pub forward_held : (pages : List Page) (blocks k : ℕ) (o : Option Trace) → blocks < k → Holds pages k o → HasForward pages blocks o
forward_held pages blocks k o inside holds =
    told_one (λ t. StandsAt pages k t.now) (λ t. (sealed : List Page) → IsSealed sealed t.now.contents → AreAlike pages blocks sealed) o
    (λ t stands sealed is b l. ap (λ (ps : List Page). slice_get ps (1 + b))
    (sealed_unique sealed (take k pages) t.now.contents is (held_sealed pages k t stands)) ∙ taken k (1 + b) pages (omega (arith, inside, l)))
    (holds_told pages k o holds)

pub finals_have : {E : Type 0} (m : ℕ) (value : E → ℕ) (columns : ColumnList) (course : Course) (blocks k : ℕ) (numbers : List ℕ)
    (rows finals uses : List (List (ℕ × E))) (told : Option Trace) → blocks < k → AreFinals m value columns course k numbers rows finals uses told
    → HaveFinals m value columns course blocks numbers rows finals uses told
finals_have m value columns course blocks k numbers rows finals uses told inside are = record {
  forward = forward_held course.pages blocks k told inside are.holds;
  finished = are.finished;
  made = are.made;
}

-- what is told of the combinations of final rows from a place on: the sums of the sealed ones
abbrev pub AreFinalSums : {E : Type 0} → ℕ → (E → ℕ) → List ℕ → ℕ → List (List (ℕ × E)) → List (List (ℕ × E)) → List Page → Type 0
AreFinalSums m value numbers first uses made pages = (j : ℕ) → j < length made → SameRow m (row_at value made j)
    (combination (length numbers) (λ i. sealed_combination pages (get_or numbers i 0)) (used_at value numbers (get_or uses (first + j) [])))

module _ {E : Type 0} (zero_element : E) (has : E → Bool) (value : E → ℕ) (course : Course) (columns : ColumnList) (blocks : ℕ)
    (numbers : List ℕ) (rows finals uses : List (List (ℕ × E))) (told : Option Trace) (all_blocks : blocks ≡ block_count (count_of columns))
    (are : HaveFinals course.params.modulus value columns course blocks numbers rows finals uses told)
    (sealed_rows : AreRows has (64 * blocks) numbers rows) where
  abbrev m : ℕ
  m = course.params.modulus

  cover : (b : ℕ) → b < blocks → 64 * b < count_of columns
  cover b l = omega (arith, l, all_blocks)

  abbrev sealed : ℕ → ℕ → ℕ → ℕ
  sealed k i = sealed_combination (take k course.pages) (get_or numbers i 0)

  sealed_at : (k : ℕ) → blocks < k → (i : ℕ) → i < length numbers
      → IsRecorded m columns course.work (suc (get_or numbers i 0)) (row_at value rows i) (sealed k i)
  sealed_at k inside i l = let finished = are.finished in
      recorded_at zero_element has value course columns (count_of columns) numbers rows finished.offered blocks (omega arith) cover
      (λ b j lb lj few. few) k inside i l
      (sealed_rows.below i l)

  final_made : (k : ℕ) → blocks < k → (i : ℕ) → i < length finals → IsRecorded m columns course.work (count_of columns) (row_at value finals i)
      (combination (length numbers) (sealed k) (used_at value numbers (get_or uses i [])))
  final_made k inside i l =
      let n : ℕ = count_of columns in
      let u : ℕ → ℕ = used_at value numbers (get_or uses i []) in
      let finished = are.finished in
      let offered = finished.offered in
      let sum : IsRecorded m columns course.work n (row_at value finals i) (λ q. 0 + combination (length rows) (sealed k) u q) =
      are.made i l (sealed k) (λ t lt.
      let lt_numbers : t < length numbers = omega (arith, lt, sealed_rows.count) in
      let x : ℕ = get_or numbers t 0 in
      let (accepted, below) = (offered.accepted x).0 (t, lt_numbers, refl) in
      recorded_later m columns course.work (suc x) n (row_at value rows t) (sealed k t) (omega (arith, below)) (sealed_at k inside t lt_numbers)) in
      recorded_same m columns course.work n (row_at value finals i) (row_at value finals i) (λ q. 0 + combination (length rows) (sealed k) u q)
      (combination (length numbers) (sealed k) u) (λ q. refl)
      (λ q. ap (λ x. x % m) (let e : 0 + combination (length rows) (sealed k) u q ≡ combination (length rows) (sealed k) u q = omega arith in
      e ∙ ap (λ t. combination t (sealed k) u q) sealed_rows.count)) sum

  pub finals_kept : (k : ℕ) → (has zero_element ≡ true) → (value zero_element ≡ 0)
      → ((a b : E) → has a ≡ true → has b ≡ true → value a ≡ value b → a ≡ b) → ((a : E) → has a ≡ true → value a < m) → blocks < k
      → AllKept m zero_element value blocks numbers rows (take k course.pages)
  finals_kept k has_zero value_zero value_injective value_below inside = let finished = are.finished in
      all_kept zero_element has value course columns (count_of columns) numbers rows finished.offered blocks (omega arith) cover (λ b j lb lj few. few) has_zero
      value_zero value_injective value_below sealed_rows.rising sealed_rows.in_ring k inside

  -- what is made of the sealed combinations is recorded for the final rows
  pub made_recorded : (k : ℕ) → blocks < k → (first : ℕ) (made : List (List (ℕ × E))) → 64 * first + length made ≤ length finals
      → AreFinalSums m value numbers (64 * first) uses made (take k course.pages) → AreRecorded m value columns course first finals made
  made_recorded k inside first made fits sums =
      let finished = are.finished in
      let offered = finished.offered in
      record {
        is_course = offered.is_course;
        unbroken = offered.unbroken;
        reduced = finished.reduced;
        each = λ j l. recorded_same m columns course.work (count_of columns) (row_at value finals (64 * first + j)) (row_at value finals (64 * first + j))
            (combination (length numbers) (sealed k) (used_at value numbers (get_or uses (64 * first + j) []))) (row_at value made j) (λ q. refl)
            (λ q. sym (sums j l q)) (final_made k inside (64 * first + j) (omega (arith, l, fits)));
      }

  -- and the last one stands behind the final pages
  pub last_page : (slice_get course.pages (1 + blocks + block_count (length finals)) ≡ Some (Done (length finals)))
      × (length course.pages ≡ 2 + blocks + block_count (length finals))
  last_page =
      let finished = are.finished in
      let offered = finished.offered in
      let known = offered.is_course in
      subst (λ b. (slice_get course.pages (1 + b + block_count (length finals)) ≡ Some (Done (length finals)))
      × (length course.pages ≡ 2 + b + block_count (length finals))) (sym all_blocks)
      (next_last course.params columns course.work known.is_work known.are_columns known.converts offered.unbroken (length finals) (lead_at finals)
      (row_at value finals) finished.reduced course.pages known.are_pages)

-- the same where the modulus is known by another name
module _ {E : Type 0} (m : ℕ) (zero_element : E) (has : E → Bool) (value : E → ℕ) (has_zero : has zero_element ≡ true) (value_zero : value zero_element ≡ 0)
    (value_injective : (a b : E) → has a ≡ true → has b ≡ true → value a ≡ value b → a ≡ b) (value_below : (a : E) → has a ≡ true → value a < m)
    (course : Course) (columns : ColumnList) (blocks : ℕ) (numbers : List ℕ) (rows finals uses : List (List (ℕ × E))) (told : Option Trace)
    (all_blocks : blocks ≡ block_count (count_of columns)) (are : HaveFinals m value columns course blocks numbers rows finals uses told)
    (sealed_rows : AreRows has (64 * blocks) numbers rows) where
  own_modulus : course.params.modulus ≡ m
  own_modulus = let finished = are.finished in let offered = finished.offered in let known = offered.is_course in known.modulus

  abbrev Own : ℕ → Type 0
  Own x = HaveFinals x value columns course blocks numbers rows finals uses told

  pub sums_recorded : (k : ℕ) → blocks < k → (first : ℕ) (made : List (List (ℕ × E))) → 64 * first + length made ≤ length finals
      → AreFinalSums m value numbers (64 * first) uses made (take k course.pages) → AreRecorded m value columns course first finals made
  sums_recorded k inside first made fits sums =
      subst (λ x. Own x → AreFinalSums x value numbers (64 * first) uses made (take k course.pages) → AreRecorded x value columns course first finals made)
      own_modulus (λ own sums_are. made_recorded zero_element has value course columns blocks numbers rows finals uses told all_blocks own sealed_rows
      k inside first made fits sums_are) are sums

  pub rows_kept : (k : ℕ) → blocks < k → AllKept m zero_element value blocks numbers rows (take k course.pages)
  rows_kept k inside = subst (λ x. ((a : E) → has a ≡ true → value a < x) → Own x → AllKept x zero_element value blocks numbers rows (take k course.pages))
      own_modulus (λ below own. finals_kept zero_element has value course columns blocks numbers rows finals uses told all_blocks own sealed_rows k
      has_zero value_zero value_injective below inside) value_below are

  pub last_stands : (slice_get course.pages (1 + blocks + block_count (length finals)) ≡ Some (Done (length finals)))
      × (length course.pages ≡ 2 + blocks + block_count (length finals))
  last_stands = subst (λ x. Own x → (slice_get course.pages (1 + blocks + block_count (length finals)) ≡ Some (Done (length finals)))
      × (length course.pages ≡ 2 + blocks + block_count (length finals))) own_modulus
      (λ own. last_page zero_element has value course columns blocks numbers rows finals uses told all_blocks own sealed_rows) are

  -- pages with the same forward pages have the same combinations beside the rows kept, and are kept as well
  module _ (pages : List Page) (alike : AreAlike course.pages blocks pages) where
    alike_at : (b : ℕ) → b < blocks → slice_get (take (1 + blocks) course.pages) (1 + b) ≡ slice_get pages (1 + b)
    alike_at b l = taken (1 + blocks) (1 + b) course.pages (omega (arith, l)) ∙ sym (alike b l)

    same_combination : (i : ℕ) → i < length numbers
        → sealed_combination pages (get_or numbers i 0) ≡ sealed_combination (take (1 + blocks) course.pages) (get_or numbers i 0)
    same_combination i l = let x : ℕ = get_or numbers i 0 in
        ap (λ page. combination_in (entries_on page) x) (sym (alike_at (x / 64) (omega (arith, sealed_rows.below i l))))

    same_sums : (first : ℕ) (made : List (List (ℕ × E))) → AreFinalSums m value numbers first uses made pages
        → AreFinalSums m value numbers first uses made (take (1 + blocks) course.pages)
    same_sums first made sums j l q =
        let u : ℕ → ℕ = used_at value numbers (get_or uses (first + j) []) in
        sums j l q ∙ ap (λ x. x % m) (alike_below (length numbers) (λ i. u i * sealed_combination pages (get_or numbers i 0) q)
        (λ i. u i * sealed_combination (take (1 + blocks) course.pages) (get_or numbers i 0) q)
        (λ i li. ap (λ (f : ℕ → ℕ). u i * f q) (same_combination i li)))

    pub pages_kept : AllKept m zero_element value blocks numbers rows pages
    pages_kept b done end l run some page at = rows_kept (1 + blocks) (omega arith) b done end l run some page (alike_at b l ∙ at)

  -- so they are where the disk tells
  pub group_told : (first : ℕ) (made : List (List (ℕ × E))) → 64 * first + length made ≤ length finals → (notes : Notes) (o : Option Trace)
      → IfSome o (λ t. Suits notes t.now.contents) → HasForward course.pages blocks o
      → IfSome o (λ t. (pages : List Page) → IsSealed pages t.now.contents → AreFinalSums m value numbers (64 * first) uses made pages)
      → IfSome o (λ t. AreRecorded m value columns course first finals made)
  group_told first made fits notes None suits forward sums = tt
  group_told first made fits notes (Some t) suits forward sums =
      let reads = suits.reads in
      sums_recorded (1 + blocks) (omega arith) first made fits
      (same_sums suits.pages (forward suits.pages reads.sealed) (64 * first) made (sums suits.pages reads.sealed))

  pub finals_untold : (notes : Notes) (o : Option Trace) → IfSome o (λ t. Suits notes t.now.contents) → HasForward course.pages blocks o
      → IfSome o (λ t. (pages : List Page) → IsSealed pages t.now.contents → ¬ (AllKept m zero_element value blocks numbers rows pages)) → o ≡ None
  finals_untold notes None suits forward other = refl
  finals_untold notes (Some t) suits forward other = let reads = suits.reads in
      absurd (other suits.pages reads.sealed (pages_kept suits.pages (forward suits.pages reads.sealed)))

-- sums that begin with nothing
pub final_sums : {E : Type 0} (m : ℕ) (value : E → ℕ) (numbers : List ℕ) (first end : ℕ) (uses starts made : List (List (ℕ × E))) (pages : List Page)
    → ((i : ℕ) → get_or starts i [] ≡ []) → length made ≤ end - first → ((j : ℕ) → j < length made → SameRow m (row_at value made j)
    (λ q. row_at value starts j q + combination (length numbers) (λ i. sealed_combination pages (get_or numbers i 0))
    (used_at value numbers (get_or (between first end uses) j [])) q)) → AreFinalSums m value numbers first uses made pages
final_sums {E} m value numbers first end uses starts made pages zeros short told j l q =
    let Sum : List (ℕ × E) → ℕ = λ w. combination (length numbers) (λ i. sealed_combination pages (get_or numbers i 0)) (used_at value numbers w) q in
    let w : List (ℕ × E) = get_or (between first end uses) j [] in
    told j l q ∙ ap (λ x. x % m) (ap (λ es. entries_of value es q + Sum w) (zeros j) ∙ (let e : 0 + Sum w ≡ Sum w = omega arith in e)
    ∙ ap Sum (between_at first end uses j [] (omega (arith, l, short))))
