-- What reading a version 1 file page by page passes, and how it ends.
use Rattle.std.specs.Prelude.{◌≡◌, ◌⊎◌, ℕ, suc, ◌≤◌, Option, Some, None, IsSomeAnd, List, [], ◌∷◌, ◌++◌, length, take}
use Rattle.std.specs.List.{AllByRecursion}
use Rattle.outside_io.specs.Moments.{Moment}
use Rattle.outside_io.specs.Traces.{Trace, moments}
use Rattle.page_codec.specs.declared.params.Params.{Params}
use Rattle.page_codec.specs.declared.page.Page.{Page}
use Rattle.page_file.specs.Files.{Stops, ReadsAs}
use Rattle.page_file.specs.Notes.{params_of}
use Rattle.page_file.specs.Stays.{AllImages}
use Rattle.file_model.specs.FinalRows.{EndsDone}
use Rattle.table_migration.specs.OldFiles.{IsOldPage, old_spelling, old_opened, AreFit, IsUnread}

-- what is said of the bytes
pub data Answer : Type 0 where
  Migrated : Params → ℕ → Answer
  BadPage : ℕ → Answer
  Misfit : ℕ → Answer
  NotDone : ℕ → Answer

-- these pages stand in front of the bytes, each behind an open gate and at its place, and then the rest
pub record ArePassed (bytes : List ℕ) (pages : List Page) (rest : List ℕ) : Type 0 where
  pub each : AllByRecursion IsOldPage pages
  pub fit : AreFit pages
  pub bytes_are : bytes ≡ old_opened pages ++ rest

-- behind an open gate a page stands that does not fit behind these
pub record IsMisplaced (pages : List Page) (bytes : List ℕ) : Type 0 where
  pub page : Page
  pub is_page : IsOldPage page
  pub rest : List ℕ
  pub bytes_are : bytes ≡ 1 ∷ (old_spelling page ++ rest)
  pub misfit : ¬ (AreFit (pages ++ page ∷ []))

-- how reading ends behind the pages that it passed: at a Done page, or at what stands next
abbrev pub EndsAt : List Page → List ℕ → Answer → Type 0
EndsAt pages rest (Migrated params n) = EndsDone pages × (params_of pages ≡ Some params) × (n ≡ length pages)
EndsAt pages rest (BadPage i) = ¬ (EndsDone pages) × (i ≡ length pages) × IsUnread rest
EndsAt pages rest (Misfit i) = ¬ (EndsDone pages) × (i ≡ length pages) × IsMisplaced pages rest
EndsAt pages rest (NotDone n) = ¬ (EndsDone pages) × (n ≡ length pages) × Stops rest

-- reading passes these pages of the bytes, and then ends so
pub record IsReading (bytes : List ℕ) (pages : List Page) (answer : Answer) : Type 0 where
  pub rest : List ℕ
  pub passed : ArePassed bytes pages rest
  pub ends : EndsAt pages rest answer

-- the answer is told by the bytes alone
abbrev pub MigrationEnds : List ℕ → Answer → Type 0
MigrationEnds bytes answer = (pages : List Page) × IsReading bytes pages answer

-- the pages that reading passes
abbrev pub AreOldPages : List ℕ → List Page → Type 0
AreOldPages bytes pages = (answer : Answer) × IsReading bytes pages answer

-- a crash at this moment leaves the first `count` of the pages, or these and the next one, and nothing that is foreign
abbrev pub HasSealed : List Page → ℕ → Moment → Type 0
HasSealed pages count m = AllImages (λ image. ReadsAs (take count pages) image ⊎ ReadsAs (take (suc count) pages) image) m

-- so it does at each of these moments, the newest first, with never fewer than before
abbrev pub Rises : List Page → ℕ → List Moment → Type 0
Rises pages most [] = Unit {0}
Rises pages most (m ∷ past) = (count : ℕ) × (count ≤ most) × HasSealed pages count m × Rises pages count past

-- and at each moment since an earlier one, where the disk tells
abbrev pub Climbs : List Page → Option Trace → Option Trace → Type 0
Climbs pages None new = new ≡ None
Climbs pages (Some t) new = IsSomeAnd new (λ u. (since : List Moment) × (moments u ≡ since ++ moments t) × Rises pages (length pages) since)
