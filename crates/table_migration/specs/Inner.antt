-- What single steps of the code answer. No public clause cites these, so a reader need not believe them.
use Rattle.std.specs.Prelude.{◌≡◌, ℕ, ◌+◌, ◌≤◌, ◌<◌, true, Option, Some, List, [], ◌∷◌, ◌++◌, length, IfSome}
use Rattle.std.specs.List.{AllByRecursion}
use Rattle.outside_io.specs.Told.{before_told}
use Rattle.outside_io.specs.Moments.{settled}
use Rattle.outside_io.specs.Traces.{Trace}
use Rattle.page_codec.specs.declared.params.Params.{Params}
use Rattle.page_codec.specs.declared.page.Page.{Page}
use Rattle.page_codec.specs.Places.{AllFit, WalkAt, walk_of}
use Rattle.page_file.specs.Files.{Stops, file_of}
use Rattle.page_file.specs.Notes.{Notes, Suits, params_of}
use Rattle.page_file.specs.declared.fault.FileFault.{FileFault}
use Rattle.page_file.specs.declared.fault.FileFault.TheVariants as file
use Rattle.table_model.specs.ListedSpan.{relation_count}
use Rattle.table_migration.specs.OldFiles.{IsOldPage, old_spelling, old_opened, IsUnread}
use Rattle.table_migration.specs.Migrations.{ArePassed, IsReading, Climbs}
use Rattle.table_migration.specs.Answers.{fault_answer}
use Rattle.table_migration.specs.declared.fault.MigrateFault.{MigrateFault}
use Rattle.table_migration.specs.declared.fault.MigrateFault.TheVariants as fault
use Rattle.table_migration.specs.declared.reading.Next.{Next}
use Rattle.table_migration.specs.declared.reading.Next.TheVariants.{Passed, End, Unread}

-- ---- reading

-- the next bytes were taken, as many as are wanted or as there are
pub record Takes (wanted : ℕ) (old new : Option (List ℕ)) (before after : List ℕ) : Type 0 where
  pub bytes : List ℕ
  pub after_is : after ≡ before ++ bytes
  pub few : length bytes ≤ wanted
  pub taken : old ≡ before_told bytes new
  pub end : length bytes < wanted → IfSome new (λ left. left ≡ [])

abbrev pub IsNext : Option (List ℕ) → Option (List ℕ) → Next → Type 0
IsNext old new (Passed page) = IsOldPage page × (old ≡ before_told (1 ∷ old_spelling page) new)
IsNext old new End = IfSome old Stops
IsNext old new Unread = IfSome old IsUnread

-- a call of the source failed, or memory was wanting
abbrev pub IsReadCause : Type 0 → MigrateFault → Type 0
IsReadCause rose fault.DiskFault = ⊥
IsReadCause rose fault.ReadFault = rose
IsReadCause rose (fault.Exists n) = ⊥
IsReadCause rose (fault.BadPage i) = ⊥
IsReadCause rose (fault.Misfit i) = ⊥
IsReadCause rose (fault.NotDone n) = ⊥
IsReadCause rose (fault.Memory e) = Unit {0}

-- ---- sealing

-- why a page was not sealed; that the disk holds what it should not is told as bytes that stand there
abbrev pub file_fault : FileFault → MigrateFault
file_fault file.DiskFault = fault.DiskFault
file_fault (file.Foreign n) = fault.Exists n
file_fault (file.BadPage i) = fault.Exists i
file_fault (file.Memory e) = fault.Memory e

-- a call of the disk failed, bytes stand where there were none, or memory was wanting
abbrev pub IsDiskCause : Type 0 → Type 0 → MigrateFault → Type 0
IsDiskCause rose silent fault.DiskFault = rose
IsDiskCause rose silent fault.ReadFault = ⊥
IsDiskCause rose silent (fault.Exists n) = silent
IsDiskCause rose silent (fault.BadPage i) = ⊥
IsDiskCause rose silent (fault.Misfit i) = ⊥
IsDiskCause rose silent (fault.NotDone n) = ⊥
IsDiskCause rose silent (fault.Memory e) = Unit {0}

-- ---- copying

-- the count of the disk rose, or that of the source
abbrev pub IsCause : Type 0 → Type 0 → MigrateFault → Type 0
IsCause disk source fault.DiskFault = disk
IsCause disk source fault.ReadFault = source
IsCause disk source (fault.Exists n) = ⊥
IsCause disk source (fault.BadPage i) = Unit {0}
IsCause disk source (fault.Misfit i) = Unit {0}
IsCause disk source (fault.NotDone n) = Unit {0}
IsCause disk source (fault.Memory e) = Unit {0}

-- the file of the pages stands there, and nothing is pending, where the disk tells
abbrev pub Stands : List Page → Option Trace → Type 0
Stands pages told = IfSome told (λ t. t.now ≡ settled (file_of pages))

-- the next page may be sealed
pub record IsReady (count : ℕ) (notes : Notes) (told : Option Trace) : Type 0 where
  pub gates : length notes.gates ≡ count + 1
  pub ready : notes.is_ready ≡ true
  pub live : notes.is_live ≡ true
  pub suits : IfSome told (λ t. Suits notes t.now.contents)

-- these pages of a file of the parameters were taken from the source, and are sealed on the disk
pub record AreCopied (params : Params) (pages : List Page) (walk : WalkAt) (notes : Notes) (first left : Option (List ℕ))
    (old new : Option Trace) : Type 0 where
  pub header : params_of pages ≡ Some params
  pub each : AllByRecursion IsOldPage pages
  pub fit : AllFit params (relation_count params.weight params.depth) pages
  pub walk_is : walk ≡ walk_of params (relation_count params.weight params.depth) pages
  pub taken : first ≡ before_told (old_opened pages) left
  pub is_ready : IsReady (length pages) notes new
  pub stands : Stands pages new
  pub keeps : Climbs pages old new

-- copying stopped behind pages that were passed
pub record IsStopped (first : Option (List ℕ)) (old new : Option Trace) (e : MigrateFault) : Type 0 where
  pub pages : List Page
  pub passed : IfSome first (λ bytes. (rest : List ℕ) × ArePassed bytes pages rest)
  pub keeps : Climbs pages old new
  pub ends : IfSome (fault_answer e) (λ answer. IfSome first (λ bytes. IsReading bytes pages answer) × Stands pages new)
