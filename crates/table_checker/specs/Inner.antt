-- What single steps over the pages of a file answer. No public clause cites these, so a reader need not believe them.
use Rattle.std.specs.Prelude.{◌≡◌, ℕ, zero, suc, Bool, List, map, slice_get, Option, Some, None, IfSome}
use Rattle.std.specs.List.{AllByRecursion}
use Rattle.sparse_rows.specs.Entries.{IsRow, IsBelow, AllIn}
use Rattle.outside_io.specs.Traces.{Trace}
use Rattle.page_codec.specs.declared.params.Params.{Params}
use Rattle.page_codec.specs.declared.parts.FinalEntry.{FinalEntry}
use Rattle.page_codec.specs.declared.page.Page.{Page}
use Rattle.page_codec.specs.Places.{FitsPlace, WalkAt, walk_of}
use Rattle.page_file.specs.Files.{IsSealed}
use Rattle.page_file.specs.declared.fault.FileFault.{FileFault}
use Rattle.page_file.specs.declared.fault.FileFault.TheVariants as reading
use Rattle.page_rows.specs.Written.{written, AreResidues}
use Rattle.file_model.specs.FinalRows.{finals_of}
use Rattle.lyndon_polys.specs.declared.fault.LyndonFault.{LyndonFault}
use Rattle.lyndon_polys.specs.declared.fault.LyndonFault.TheVariants as conversion
use Rattle.table_checker.specs.Checks.{AreClosed}
use Rattle.table_checker.specs.declared.fault.CheckFault.{CheckFault}
use Rattle.table_checker.specs.declared.fault.CheckFault.TheVariants as checks
use Rattle.cert_checker.specs.declared.fault.CompletenessFault.{CompletenessFault}
use Rattle.cert_checker.specs.declared.fault.CompletenessFault.TheVariants as rows

-- an entry whose residues are below m, and whose columns and numbers are below their bounds
pub record IsReadable (columns relations m : ℕ) (e : FinalEntry) : Type 0 where
  pub row : AreResidues (λ k. k) m e.row
  pub row_below : IsBelow (λ k. k) columns e.row
  pub combination : AreResidues (λ k. k) m e.combination
  pub combination_below : IsBelow (λ k. k) relations e.combination

module _ {E : Type 0} where
  -- a row of elements of the ring that are not zero
  pub record IsRowIn (zero : E) (has : E → Bool) (row : List (ℕ × E)) : Type 0 where
    pub is_row : IsRow (λ k. k) zero 0 row
    pub in_ring : AllIn has row

  -- rows and combinations of elements are those of entries
  pub record AreRowsOf (zero : E) (has : E → Bool) (value : E → ℕ) (entries : List FinalEntry) (rows combinations : List (List (ℕ × E))) : Type 0 where
    pub rows_are : map (written value) rows ≡ map (λ (e : FinalEntry). e.row) entries
    pub combinations_are : map (written value) combinations ≡ map (λ (e : FinalEntry). e.combination) entries
    pub rows_in : AllByRecursion (IsRowIn zero has) rows
    pub combinations_in : AllByRecursion (IsRowIn zero has) combinations

-- the pages that a disk seals, where it tells, are closed, and these are their final entries
abbrev pub ClosesWith : Option Trace → Params → List FinalEntry → Type 0
ClosesWith told params entries =
    IfSome told (λ t. (pages : List Page) → IsSealed pages t.now.contents → AreClosed params pages × (finals_of pages ≡ entries))

-- the walk stands behind some pages
abbrev pub IsBehind : WalkAt → List Page → Type 0
IsBehind walk before = walk ≡ walk_of walk.params walk.relations before

-- a fault of reading a page, which is never foreign
abbrev pub reading_fault : FileFault → CheckFault
reading_fault reading.DiskFault = checks.DiskFault
reading_fault (reading.Foreign n) = checks.BadPage n
reading_fault (reading.BadPage i) = checks.BadPage i
reading_fault (reading.Memory e) = checks.Memory e

-- a fault of rows is one of the table
abbrev pub rows_fault : CompletenessFault → CheckFault
rows_fault (rows.BadRow i) = checks.BadRow i
rows_fault (rows.NotReduced i) = checks.NotReduced i
rows_fault (rows.Missing n rest) = checks.Missing n rest
rows_fault (rows.Memory e) = checks.Memory e

-- a fault of words is one of the table
abbrev pub conversion_fault : LyndonFault → CheckFault
conversion_fault (conversion.NoInverse value word) = checks.NoInverse value word
conversion_fault (conversion.Memory e) = checks.Memory e

-- no page is sealed, or the first is no header
abbrev pub without_header : ℕ → CheckFault
without_header zero = checks.NotDone 0
without_header (suc n) = checks.Misfit 0

-- why a page is not gone over that comes behind others: a cause for each fault; over a disk that tells, each page is spelled
abbrev pub IsPageFault : Type 0 → Option Trace → WalkAt → ℕ → CheckFault → Type 0
IsPageFault rose told walk i checks.DiskFault = rose
IsPageFault rose told walk i (checks.BadPage n) = told ≡ None
IsPageFault rose told walk i (checks.Misfit n) =
    (n ≡ i) × IfSome told (λ t. (pages before : List Page) → IsSealed pages t.now.contents → IsBehind walk before
    → (page : Page) × (slice_get pages i ≡ Some page) × ¬ (FitsPlace walk.params walk.relations before page))
IsPageFault rose told walk i (checks.NotDone n) = ⊥
IsPageFault rose told walk i (checks.NoInverse value word) = ⊥
IsPageFault rose told walk i (checks.BadRow n) = ⊥
IsPageFault rose told walk i (checks.NotReduced n) = ⊥
IsPageFault rose told walk i (checks.Missing n rest) = ⊥
IsPageFault rose told walk i (checks.Memory e) = Unit {0}
