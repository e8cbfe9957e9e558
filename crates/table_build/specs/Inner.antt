-- What single steps of the code keep. No public clause cites this, so a reader need not believe it.
use Rattle.std.specs.Prelude.{◌≡◌, ℕ, suc, ◌+◌, ◌*◌, ◌/◌, ◌-◌, ◌^◌, ◌<◌, ◌≤◌, ◌↔◌, min, drop, Bool, IsTrue, cond, eqb, Option, Some, None, IfSome, List, [], ◌++◌, length, get_or, take, slice_get}
use Rattle.std.specs.List.{All, AllByRecursion}
use Rattle.zeta_model.specs.Sums.{Sum}
use Rattle.linear_model.specs.Rows.{SameRow, SameSpan, combination}
use Rattle.outside_io.specs.Moments.{Moment, settled}
use Rattle.outside_io.specs.Traces.{Trace}
use Rattle.column_order.specs.Columns.{ColumnList, HasLimits}
use Rattle.relation_list.specs.declared.names.RelName.{RelName}
use Rattle.relation_list.specs.Listings.{listing_of}
use Rattle.sparse_rows.specs.Entries.{IsRow, AllIn}
use Rattle.echelon.specs.Lists.{row_at, lead_at, AreForward}
use Rattle.echelon.specs.States.{AllIns, Elimination}
use Rattle.echelon.specs.Offers.{used_at}
use Rattle.lyndon_polys.specs.Tables.{RingTable}
use Rattle.table_model.specs.Conversion.{Converts, IsCols}
use Rattle.table_model.specs.ListedSpan.{values_of, count_of, relation_count}
use Rattle.table_model.specs.ReducedRows.{IsAccepted, IsForwardRow, IsUnbroken, IsReducedRows}
use Rattle.page_codec.specs.declared.params.Params.{Params}
use Rattle.page_codec.specs.declared.parts.ForwardEntry.{ForwardEntry}
use Rattle.page_codec.specs.declared.parts.FinalEntry.{FinalEntry}
use Rattle.page_codec.specs.declared.page.Page.{Page}
use Rattle.page_codec.specs.declared.page.Page.TheVariants.{Header, Forward, Final, Done}
use Rattle.page_codec.specs.Bounds.{IsPage}
use Rattle.page_codec.specs.Places.{WalkAt, AreBelow, AllFit, block_count, walk_of}
use Rattle.page_rows.specs.Written.{written}
use Rattle.page_file.specs.Files.{IsSealed, ReadsAs, file_of}
use Rattle.page_file.specs.Notes.{Notes}
use Rattle.page_file.specs.Stays.{Passes}
use Rattle.file_model.specs.TableOf.{IsTableOf}
use Rattle.file_model.specs.Pages.{Work, IsWork, IsRecorded, ArePages, numbers_of, forward_page, final_page}
use Rattle.file_model.specs.Resuming.{combination_in, entries_of, blocks_of}
use Rattle.file_model.specs.Builds.{work_from}
use Rattle.table_build.specs.declared.fault.WorkFault.{WorkFault}
use Rattle.table_build.specs.declared.fault.WorkFault.TheVariants as stopped
use Rattle.table_build.specs.declared.fault.ResumeFault.{ResumeFault}
use Rattle.table_build.specs.declared.fault.ResumeFault.TheVariants as resumed

-- ---- the disk

-- the first k pages or more of these are what the bytes read as
pub record ReadsFrom (pages : List Page) (k : ℕ) (bytes : List ℕ) : Type 0 where
  pub count : ℕ
  pub from : k ≤ count
  pub within : count ≤ length pages
  pub reads : ReadsAs (take count pages) bytes

-- the file of the first k pages stands there, and nothing is pending
pub record StandsAt (pages : List Page) (k : ℕ) (m : Moment) : Type 0 where
  pub within : k ≤ length pages
  pub stands : m ≡ settled (file_of (take k pages))
  pub reads : ReadsAs (take k pages) (file_of (take k pages))

-- so it is where the disk tells
abbrev pub Holds : List Page → ℕ → Option Trace → Type 0
Holds pages k None = Unit {0}
Holds pages k (Some t) = StandsAt pages k t.now

-- a crash at each moment since leaves the first k pages or more of these
abbrev pub Keeps : List Page → ℕ → Option Trace → Option Trace → Type 0
Keeps pages k old new = Passes (λ _ image. ReadsFrom pages k image) old new

-- so many pages are noted, and the next may be sealed
pub record IsReadyAt (k : ℕ) (notes : Notes) : Type 0 where
  pub ready : IsTrue notes.is_ready
  pub live : IsTrue notes.is_live
  pub count : length notes.gates ≡ suc k

-- ---- the work

-- work for some parameters, the number from which on it goes, and its pages
pub record Course : Type 0 where
  pub params : Params
  pub work : Work
  pub from : ℕ
  pub pages : List Page

-- these are the pages of the work, which offers the listed values from its number on, and writes each as itself
pub record IsCourse (m : ℕ) (columns : ColumnList) (course : Course) : Type 0 where
  pub modulus : course.params.modulus ≡ m
  pub are_columns : IsTableOf course.params columns
  pub converts : Converts course.params.modulus columns
  pub is_work : IsWork course.params.modulus columns course.work
  pub are_pages : ArePages course.params columns course.work course.pages
  pub each : AllByRecursion IsPage course.pages
  pub fit : AllFit course.params (relation_count course.params.weight course.params.depth) course.pages
  pub offers : (n : ℕ) → course.from ≤ n → n < count_of columns → course.work.sums n ≡ values_of m columns n
  pub writes : (n : ℕ) → course.from ≤ n → n < count_of columns
      → SameRow m (course.work.beside (λ k. cond (eqb k n) 1 0)) (λ k. cond (eqb k n) 1 0)

-- the rows kept have the span of the rows of the first n sums, whichever rows these have
abbrev pub SpanFirst : {E : Type 0} → ℕ → (E → ℕ) → ColumnList → (ℕ → Sum) → ℕ → List (List (ℕ × E)) → Type 0
SpanFirst m value columns sums n kept =
    (cols : ℕ → ℕ → ℕ) → ((i : ℕ) → i < n → IsCols m columns (sums i) (cols i)) → SameSpan m (length kept) (row_at value kept) n cols

-- a number stands in the list
abbrev pub Stands : List ℕ → ℕ → Type 0
Stands numbers k = (i : ℕ) × (i < length numbers) × (get_or numbers i 0 ≡ k)

-- the first n sums were offered, none of which breaks the work: the rows kept are the forward rows of the accepted ones
pub record HasOffered {E : Type 0} (m : ℕ) (value : E → ℕ) (columns : ColumnList) (course : Course) (n : ℕ) (numbers : List ℕ) (rows : List (List (ℕ × E)))
    : Type 0 where
  pub is_course : IsCourse m columns course
  pub from : course.from ≤ n
  pub list : AreForward m value rows
  pub count : length numbers ≡ length rows
  pub unbroken : IsUnbroken m columns course.work.sums n
  pub span : SpanFirst m value columns course.work.sums n rows
  pub accepted : (k : ℕ) → Stands numbers k ↔ (IsAccepted m columns course.work.sums k × (k < n))
  pub forward : (i : ℕ) → i < length numbers → IsForwardRow m columns course.work.sums (get_or numbers i 0) (row_at value rows i)

-- the next relation may be offered
pub record CanOffer {R E : Type 0} (table : RingTable R) (names : List RelName) (kept : R) (e : Elimination R E) (n : ℕ) : Type 0 where
  pub kept_ring : kept ≡ table.ring
  pub ring : e.ring ≡ table.ring
  pub columns : e.columns ≡ length table.columns.list
  pub above : e.above ≤ n
  pub limits : HasLimits table.columns.weight table.columns.depth
  pub names_are : names ≡ listing_of table.columns.weight table.columns.depth
  pub few : length table.columns.list ≤ 2048

-- ---- rows and what is written beside them

-- the row is recorded with the start and the uses of what is recorded for the count rows
abbrev pub IsMadeOf : ℕ → ColumnList → Work → ℕ → ℕ → (ℕ → ℕ → ℕ) → (ℕ → ℕ) → (ℕ → ℕ) → (ℕ → ℕ) → Type 0
IsMadeOf m columns work n count rows row start uses = (g : ℕ → ℕ → ℕ) → ((i : ℕ) → i < count → IsRecorded m columns work n (rows i) (g i))
    → IsRecorded m columns work n row (λ q. start q + combination count g uses q)

-- the forward rows of a block, behind those of first earlier places: each is made of the rows before it
abbrev pub AreFresh : {E : Type 0} → ℕ → (E → ℕ) → ColumnList → Work → ℕ → List ℕ → List (List (ℕ × E)) → List (List (ℕ × E)) → List (List (ℕ × E)) → Type 0
AreFresh m value columns work first numbers rows uses starts = (j : ℕ) → j < length uses
    → IsMadeOf m columns work (suc (get_or numbers (first + j) 0)) (first + j) (row_at value rows) (row_at value rows (first + j)) (row_at value starts j)
    (used_at value numbers (get_or uses j []))

-- so many sums that are being made, each with an accumulator of the ring for each of these numbers
pub record AreTotals {A : Type 0} (is_sum : A → Type 0) (numbers : List ℕ) (count : ℕ) (sums : List (List A)) : Type 0 where
  pub bound : ℕ
  pub few : bound ≤ 2 ^ 32
  pub above : (i : ℕ) → i < length numbers → get_or numbers i 0 < bound
  pub count_is : length sums ≡ count
  pub size : (j : ℕ) → j < length sums → length (get_or sums j []) ≡ bound
  pub are_sums : (j : ℕ) → j < length sums → All is_sum (get_or sums j [])

-- as many of each, and of the ring
pub record AreSums {E : Type 0} (has : E → Bool) (count : ℕ) (uses starts : List (List (ℕ × E))) : Type 0 where
  pub uses_count : length uses ≡ count
  pub starts_count : length starts ≡ count
  pub uses_in_ring : (i : ℕ) → i < count → AllIn has (get_or uses i [])
  pub starts_in_ring : (i : ℕ) → i < count → AllIn has (get_or starts i [])

-- ---- pages that are read again

abbrev pub entries_on : Option Page → List ForwardEntry
entries_on None = []
entries_on (Some (Header p)) = []
entries_on (Some (Forward p)) = p.entries
entries_on (Some (Final p)) = []
entries_on (Some (Done rows)) = []

-- the combination beside number n, on the forward page of its block
abbrev pub sealed_combination : List Page → ℕ → ℕ → ℕ
sealed_combination pages n = combination_in (entries_on (slice_get pages (1 + n / 64))) n

-- the entry has this number and this row, and its combination fits
pub record IsKeptEntry {E : Type 0} (m : ℕ) (zero : E) (value : E → ℕ) (number : ℕ) (row : List (ℕ × E)) (e : ForwardEntry) : Type 0 where
  pub number_is : e.number ≡ number
  pub row_is : IsRow (λ k. k) zero 0 row → e.row ≡ written value row
  pub fits : AreBelow (number + 1) m e.combination

-- the entries have these numbers and these rows
pub record AreKeptEntries {E : Type 0} (m : ℕ) (zero : E) (value : E → ℕ) (numbers : List ℕ) (rows : List (List (ℕ × E))) (entries : List ForwardEntry)
    : Type 0 where
  pub count : length entries ≡ length numbers
  pub each : (i : ℕ) (e : ForwardEntry) → slice_get entries i ≡ Some e → IsKeptEntry m zero value (get_or numbers i 0) (get_or rows i []) e

-- the page is that of a block with these numbers and rows
pub record IsKeptPage {E : Type 0} (m : ℕ) (zero : E) (value : E → ℕ) (block : ℕ) (numbers : List ℕ) (rows : List (List (ℕ × E))) (page : Page) : Type 0 where
  pub entries : List ForwardEntry
  pub page_is : page ≡ forward_page (64 * block) entries
  pub are_kept : AreKeptEntries m zero value numbers rows entries

-- from done to below end are the places whose numbers are of the block
pub record IsRun (numbers : List ℕ) (block done end : ℕ) : Type 0 where
  pub order : done ≤ end
  pub within : end ≤ length numbers
  pub before : (i : ℕ) → i < done → get_or numbers i 0 < 64 * block
  pub inside : (i : ℕ) → done ≤ i → i < end → get_or numbers i 0 / 64 ≡ block
  pub behind : (i : ℕ) → end ≤ i → i < length numbers → 64 * block + 64 ≤ get_or numbers i 0

-- what stands from a place to below another
abbrev pub between : {A : Type 0} → ℕ → ℕ → List A → List A
between done end items = take (end - done) (drop done items)

-- the pages of the blocks with rows are those of these rows
abbrev pub AllKept : {E : Type 0} → ℕ → E → (E → ℕ) → ℕ → List ℕ → List (List (ℕ × E)) → List Page → Type 0
AllKept m zero value blocks numbers rows pages = (block done end : ℕ) → block < blocks → IsRun numbers block done end → done < end
    → (page : Page) → slice_get pages (1 + block) ≡ Some page → IsKeptPage m zero value block (between done end numbers) (between done end rows) page

-- each number is less than the next one
abbrev pub AreRising : List ℕ → Type 0
AreRising numbers = (i k : ℕ) → i < k → k < length numbers → get_or numbers i 0 < get_or numbers k 0

-- rows of the ring with their numbers, which rise and are below a bound
pub record AreRows {E : Type 0} (has : E → Bool) (bound : ℕ) (numbers : List ℕ) (rows : List (List (ℕ × E))) : Type 0 where
  pub count : length rows ≡ length numbers
  pub in_ring : (i : ℕ) → i < length rows → AllIn has (get_or rows i [])
  pub rising : AreRising numbers
  pub below : (i : ℕ) → i < length numbers → get_or numbers i 0 < bound

-- ---- how far the work is

-- the relations of the first b blocks were offered and their pages are sealed
pub record IsAt {E : Type 0} (m : ℕ) (value : E → ℕ) (columns : ColumnList) (course : Course) (b : ℕ) (numbers : List ℕ) (rows : List (List (ℕ × E)))
    (told : Option Trace) : Type 0 where
  pub offered : HasOffered m value columns course (min (64 * b) (count_of columns)) numbers rows
  pub holds : Holds course.pages (1 + b) told

-- all relations were offered, and the final rows are these
pub record HasFinished {E : Type 0} (m : ℕ) (value : E → ℕ) (columns : ColumnList) (course : Course) (numbers : List ℕ) (rows : List (List (ℕ × E)))
    (finals : List (List (ℕ × E))) : Type 0 where
  pub offered : HasOffered m value columns course (count_of columns) numbers rows
  pub reduced : IsReducedRows m columns course.work.sums (count_of columns) (length finals) (lead_at finals) (row_at value finals)

-- each of some final rows from a place on is made of the forward rows
abbrev pub AreMade : {E : Type 0} → ℕ → (E → ℕ) → ColumnList → Work → List ℕ → List (List (ℕ × E)) → List (List (ℕ × E)) → List (List (ℕ × E)) → Type 0
AreMade m value columns work numbers rows finals uses = (j : ℕ) → j < length finals
    → IsMadeOf m columns work (count_of columns) (length rows) (row_at value rows)
    (row_at value finals j) (λ _. 0) (used_at value numbers (get_or uses j []))

-- the entry has this number, row and combination
pub record IsEntryOf {E : Type 0} (zero : E) (value : E → ℕ) (number : ℕ) (row combination : List (ℕ × E)) (e : ForwardEntry) : Type 0 where
  pub number_is : e.number ≡ number
  pub row_is : e.row ≡ written value row
  pub combination_is : e.combination ≡ written value combination
  pub is_row : IsRow (λ k. k) zero 0 row
  pub is_combination : IsRow (λ k. k) zero 0 combination

-- the page of a block has these numbers, rows and combinations
pub record IsPageOfRows {E : Type 0} (zero : E) (value : E → ℕ) (block : ℕ) (numbers : List ℕ) (rows combinations : List (List (ℕ × E)))
    (page : Page) : Type 0 where
  pub entries : List ForwardEntry
  pub page_is : page ≡ forward_page (64 * block) entries
  pub count : length entries ≡ length numbers
  pub each : (i : ℕ) (e : ForwardEntry) → slice_get entries i ≡ Some e
      → IsEntryOf zero value (get_or numbers i 0) (get_or rows i []) (get_or combinations i []) e

-- a block was offered behind those that are sealed: its numbers and rows, which are made of the earlier ones
pub record IsBlock {E : Type 0} (m : ℕ) (value : E → ℕ) (columns : ColumnList) (course : Course) (block : ℕ) (numbers : List ℕ) (rows : List (List (ℕ × E)))
    (more_numbers : List ℕ) (more_rows uses starts : List (List (ℕ × E))) (told : Option Trace) : Type 0 where
  pub some : 64 * block < count_of columns
  pub holds : Holds course.pages (1 + block) told
  pub before : HasOffered m value columns course (64 * block) numbers rows
  pub offered : HasOffered m value columns course (min (64 * block + 64) (count_of columns)) (numbers ++ more_numbers) (rows ++ more_rows)
  pub fresh : AreFresh m value columns course.work (length numbers) (numbers ++ more_numbers) (rows ++ more_rows) uses starts

-- the entry has this final row and its combination
pub record IsFinalEntryOf {E : Type 0} (has : E → Bool) (zero : E) (value : E → ℕ) (row combination : List (ℕ × E)) (e : FinalEntry) : Type 0 where
  pub row_is : e.row ≡ written value row
  pub combination_is : e.combination ≡ written value combination
  pub row_in_ring : AllIn has row
  pub is_row : IsRow (λ k. k) zero 0 row
  pub is_combination : IsRow (λ k. k) zero 0 combination

-- the final page of a place has these rows and combinations
pub record IsPageOfFinals {E : Type 0} (has : E → Bool) (zero : E) (value : E → ℕ) (place : ℕ) (rows combinations : List (List (ℕ × E))) (page : Page)
    : Type 0 where
  pub entries : List FinalEntry
  pub page_is : page ≡ final_page (64 * place) entries
  pub count : length entries ≡ length combinations
  pub each : (i : ℕ) (e : FinalEntry) → slice_get entries i ≡ Some e
      → IsFinalEntryOf has zero value (get_or rows (64 * place + i) []) (get_or combinations i []) e

-- all relations were offered, the final rows are these, each made of the forward rows, and so many pages stand there
pub record AreFinals {E : Type 0} (m : ℕ) (value : E → ℕ) (columns : ColumnList) (course : Course) (k : ℕ) (numbers : List ℕ) (rows : List (List (ℕ × E)))
    (finals uses : List (List (ℕ × E))) (told : Option Trace) : Type 0 where
  pub holds : Holds course.pages k told
  pub finished : HasFinished m value columns course numbers rows finals
  pub made : AreMade m value columns course.work numbers rows finals uses

-- combinations for the final rows of the places from first to below end, of so many final rows
pub record IsGroup {E : Type 0} (has : E → Bool) (count first end : ℕ) (combinations : List (List (ℕ × E))) : Type 0 where
  pub within : end ≤ block_count count
  pub size : length combinations ≡ min (64 * end) count - 64 * first
  pub in_ring : AllIns has combinations

-- the final rows of the work, which is not broken, are these, and these combinations are recorded for those from 64 times first on
pub record AreRecorded {E : Type 0} (m : ℕ) (value : E → ℕ) (columns : ColumnList) (course : Course) (first : ℕ) (finals combinations : List (List (ℕ × E)))
    : Type 0 where
  pub is_course : IsCourse m columns course
  pub unbroken : IsUnbroken m columns course.work.sums (count_of columns)
  pub reduced : IsReducedRows m columns course.work.sums (count_of columns) (length finals) (lead_at finals) (row_at value finals)
  pub each : (j : ℕ) → j < length combinations
      → IsRecorded m columns course.work (count_of columns) (row_at value finals (64 * first + j)) (row_at value combinations j)

-- so it is where the disk tells, and so many pages stand there
pub record AreReady {E : Type 0} (m : ℕ) (value : E → ℕ) (columns : ColumnList) (course : Course) (k first : ℕ) (finals combinations : List (List (ℕ × E)))
    (told : Option Trace) : Type 0 where
  pub holds : Holds course.pages k told
  pub recorded : IfSome told (λ t. AreRecorded m value columns course first finals combinations)

-- the work is not broken, its reduced rows are so many, and all its pages stand there
pub record IsEnd (m : ℕ) (columns : ColumnList) (course : Course) (count : ℕ) (told : Option Trace) : Type 0 where
  pub lead : ℕ → ℕ
  pub rows : ℕ → ℕ → ℕ
  pub unbroken : IsUnbroken m columns course.work.sums (count_of columns)
  pub reduced : IsReducedRows m columns course.work.sums (count_of columns) count lead rows
  pub pages : length course.pages ≡ 2 + block_count (count_of columns) + block_count count
  pub holds : Holds course.pages (length course.pages) told

-- the course of a build: it goes on from the first relation, and its first page is the header
pub record IsBegun (m : ℕ) (columns : ColumnList) (params : Params) (course : Course) : Type 0 where
  pub is_course : IsCourse m columns course
  pub from : course.from ≡ 0
  pub header : slice_get course.pages 0 ≡ Some (Header params)

-- the relations from first to below n were offered: the rows that they gave stand behind those from before, and each is made of the rows before it
pub record HasBlock {E : Type 0} (m : ℕ) (has : E → Bool) (value : E → ℕ) (columns : ColumnList) (first n : ℕ) (before_numbers : List ℕ)
    (before_rows : List (List (ℕ × E))) (numbers : List ℕ) (rows : List (List (ℕ × E))) (block_numbers : List ℕ)
    (block_rows uses starts : List (List (ℕ × E))) : Type 0 where
  pub numbers_are : numbers ≡ before_numbers ++ block_numbers
  pub rows_are : rows ≡ before_rows ++ block_rows
  pub sums : AreSums has (length block_numbers) uses starts
  pub placed : AreRows has n block_numbers block_rows
  pub behind : (i : ℕ) → i < length block_numbers → first ≤ get_or block_numbers i 0
  pub offered : (course : Course) → HasOffered m value columns course first before_numbers before_rows → HasOffered m value columns course n numbers rows
  pub fresh : (course : Course) → HasOffered m value columns course first before_numbers before_rows
      → AreFresh m value columns course.work (length before_numbers) numbers rows uses starts

-- ---- going on

-- the walk went over these pages
abbrev pub IsBehind : WalkAt → List Page → Type 0
IsBehind walk before = walk ≡ walk_of walk.params walk.relations before

-- the pages that are sealed in what the disk tells have P
abbrev pub IfSealed : (List Page → Type 0) → Option Trace → Type 0
IfSealed P told = IfSome told (λ t. (sealed : List Page) → IsSealed sealed t.now.contents → P sealed)

-- they are the first ones of these
abbrev pub AreFirst : List Page → Option Trace → Type 0
AreFirst pages told = IfSealed (λ sealed. take (length sealed) pages ≡ sealed) told

-- the numbers and rows are those of the entries, in order
pub record AreRowsOf {E : Type 0} (value : E → ℕ) (entries : List ForwardEntry) (numbers : List ℕ) (rows : List (List (ℕ × E))) : Type 0 where
  pub numbers_are : numbers ≡ numbers_of entries
  pub count : length rows ≡ length entries
  pub rows_are : (i : ℕ) (e : ForwardEntry) → slice_get entries i ≡ Some e → e.row ≡ written value (get_or rows i [])

-- so are those of what the pages keep
abbrev pub AreRowsOn : {E : Type 0} → (E → ℕ) → List Page → List ℕ → List (List (ℕ × E)) → Type 0
AreRowsOn value pages numbers rows = AreRowsOf value (entries_of pages) numbers rows

-- the forward pages that are sealed are those of the work
abbrev pub HasForward : List Page → ℕ → Option Trace → Type 0
HasForward pages blocks told = IfSealed (λ sealed. (b : ℕ) → b < blocks → slice_get sealed (1 + b) ≡ slice_get pages (1 + b)) told

-- all relations were offered, the final rows are these, each made of the forward rows, whose pages are sealed
pub record HaveFinals {E : Type 0} (m : ℕ) (value : E → ℕ) (columns : ColumnList) (course : Course) (blocks : ℕ) (numbers : List ℕ)
    (rows finals uses : List (List (ℕ × E))) (told : Option Trace) : Type 0 where
  pub forward : HasForward course.pages blocks told
  pub finished : HasFinished m value columns course numbers rows finals
  pub made : AreMade m value columns course.work numbers rows finals uses

-- the course of going on from sealed pages: it begins behind their blocks, its first page is the header, and its first forward pages are theirs
pub record IsGoingOn (m : ℕ) (columns : ColumnList) (params : Params) (sealed : List Page) (course : Course) : Type 0 where
  pub is_course : IsCourse m columns course
  pub params_are : course.params ≡ params
  pub work_is : course.work ≡ work_from params columns sealed
  pub from : course.from ≡ min (64 * blocks_of sealed) (count_of columns)
  pub header : slice_get course.pages 0 ≡ Some (Header params)
  pub forward : (b : ℕ) → b < blocks_of sealed → slice_get course.pages (1 + b) ≡ slice_get sealed (1 + b)

-- a fault of a page that is read again
abbrev pub IsReadFault : Type 0 → Type 0 → ResumeFault → Type 0
IsReadFault rose silent resumed.DiskFault = rose
IsReadFault rose silent (resumed.Foreign n) = ⊥
IsReadFault rose silent (resumed.BadPage i) = silent
IsReadFault rose silent (resumed.Other q) = ⊥
IsReadFault rose silent (resumed.Misfit i) = ⊥
IsReadFault rose silent (resumed.NoInverseWord value word) = ⊥
IsReadFault rose silent (resumed.NotForward i) = ⊥
IsReadFault rose silent (resumed.NoInverseRelation value n) = ⊥
IsReadFault rose silent (resumed.Differs i) = silent
IsReadFault rose silent (resumed.Memory e) = Unit {0}

-- the first so many pages that are sealed are these
abbrev pub AreFirstUpTo : List Page → ℕ → Option Trace → Type 0
AreFirstUpTo pages n told = IfSealed (λ sealed. (i : ℕ) → i < n → slice_get sealed i ≡ slice_get pages i) told

-- a fault of comparing: a page that is told differs, where the disk tells
abbrev pub IsCompareFault : Type 0 → Type 0 → (ℕ → Type 0) → WorkFault → Type 0
IsCompareFault rose silent differs stopped.DiskFault = rose
IsCompareFault rose silent differs (stopped.BadPage i) = silent
IsCompareFault rose silent differs (stopped.NoInverse value n) = ⊥
IsCompareFault rose silent differs (stopped.Differs i) = differs i
IsCompareFault rose silent differs (stopped.Memory e) = Unit {0}

-- a fault of going on from final pages: a page that is told differs where nothing was done yet
abbrev pub IsGoneFault : Type 0 → Type 0 → (ℕ → Type 0) → WorkFault → Type 0
IsGoneFault rose silent differs stopped.DiskFault = rose
IsGoneFault rose silent differs (stopped.BadPage i) = silent
IsGoneFault rose silent differs (stopped.NoInverse value n) = ⊥
IsGoneFault rose silent differs (stopped.Differs i) = differs i
IsGoneFault rose silent differs (stopped.Memory e) = Unit {0}

-- the rows of the sealed blocks are put back, and their pages are the first ones of the work, whatever is pending
pub record IsStarted {E : Type 0} (m : ℕ) (value : E → ℕ) (columns : ColumnList) (params : Params) (course : Course) (b : ℕ) (numbers : List ℕ)
    (rows : List (List (ℕ × E))) (told : Option Trace) : Type 0 where
  pub offered : HasOffered m value columns course (min (64 * b) (count_of columns)) numbers rows
  pub header : slice_get course.pages 0 ≡ Some (Header params)
  pub first : AreFirst course.pages told
