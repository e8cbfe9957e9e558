-- What a run leaves on the disk.
use Rattle.std.specs.Prelude.{◌≡◌, ◌⊎◌, ℕ, ◌+◌, ◌/◌, ◌<◌, List, [], length, Option, Ok, Err, IfSome}
use Rattle.outside_io.specs.Traces.{Trace}
use Rattle.page_codec.specs.declared.params.Params.{Params}
use Rattle.page_codec.specs.declared.page.Page.{Page}
use Rattle.page_codec.specs.Bounds.{IsParams}
use Rattle.page_file.specs.Files.{file_of}
use Rattle.page_file.specs.Stays.{Leaves}
use Rattle.file_model.specs.Prefixes.{IsPages, IsFile, IsPrefix, HasPages}
use Rattle.file_model.specs.Builds.{ResumeEnds, IsLeft, HasGoneOn}
use Rattle.file_model.specs.Builds.Answer.{NoInverseRelation}
use Rattle.file_model.specs.FinalRows.{EndsDone}
use Rattle.file_model.specs.Stays.{Stays}
use Rattle.table_migration.specs.OldFiles.{IsOldFile}
use Rattle.table_migration.specs.Migrations.{AreOldPages, Climbs}
use Rattle.whole_runs.specs.declared.command.Command.TheVariants.{Dual, List as ListOf, Reduce, Sample, Probe, Show, Check, Rewrite, Rational, Build, Resume, Migrate}
use Rattle.whole_runs.specs.declared.status.Status.{Status}
use Rattle.whole_runs.specs.declared.status.Status.TheVariants as status
use Rattle.whole_runs.specs.CommandLine.{Asked}

-- the command writes the file that it names
abbrev pub WritesFile : Asked → Type 0
WritesFile (Ok (Dual m)) = ⊥
WritesFile (Ok (ListOf w d)) = ⊥
WritesFile (Ok (Reduce params)) = ⊥
WritesFile (Ok (Sample params seed count)) = ⊥
WritesFile (Ok (Probe n m)) = ⊥
WritesFile (Ok Show) = ⊥
WritesFile (Ok Check) = ⊥
WritesFile (Ok Rewrite) = ⊥
WritesFile (Ok Rational) = ⊥
WritesFile (Ok (Build params)) = Unit {0}
WritesFile (Ok (Resume params)) = Unit {0}
WritesFile (Ok Migrate) = Unit {0}
WritesFile (Err fault) = ⊥

-- the command builds the table of the parameters, or goes on with it
abbrev pub BuildsTable : Params → Asked → Type 0
BuildsTable params asked = (asked ≡ Ok (Build params)) ⊎ (asked ≡ Ok (Resume params))

-- the file of the pages before relation n, at which the work breaks that goes on from these bytes: the header, and those of the whole blocks
-- before it
pub record AreBegun (params : Params) (start bytes : List ℕ) : Type 0 where
  pub n : ℕ
  pub residue : ℕ
  pub breaks : ResumeEnds params start (NoInverseRelation residue n)
  pub pages : List Page
  pub are_pages : IsPages params pages
  pub bytes_are : bytes ≡ file_of pages
  pub as_many : length pages ≡ 1 + n / 64

-- what a build of the table of the parameters leaves, by its status
pub record BuildLeaves (params : Params) (result : Status) (old new : Option Trace) : Type 0 where
  -- the file of the parameters, with nothing pending
  pub done : result ≡ status.Done → Leaves (λ t bytes. IsFile params bytes) old new
  -- what stood there, where the table does not convert; or the pages before the break
  pub broken : result ≡ status.NoInverse → (new ≡ old) ⊎ Leaves (λ t bytes. AreBegun params [] bytes) old new
  -- what stood there
  pub exists : result ≡ status.NotATable → new ≡ old
  -- where every image had the first pages of the parameters, each image at each moment since has as many, and none that are not theirs
  pub stays : (k : ℕ) → Stays (HasPages params k) old new

-- what a run leaves that goes on with a stopped build, whatever stood there, by its status
pub record ResumeLeaves (params : Params) (result : Status) (old new : Option Trace) : Type 0 where
  -- the sealed pages as the first ones still, behind them those that are left, the last one Done, and final rows that follow from the forward rows
  pub done : result ≡ status.Done → Leaves (λ t bytes. HasGoneOn params t.now.contents bytes) old new
  -- where first pages of the parameters stood there, the file of the parameters, with nothing pending
  pub file : result ≡ status.Done → Leaves (λ t bytes. (k : ℕ) → IsPrefix params k t.now.contents → IsFile params bytes) old new
  -- what stood there, where the table does not convert; or the pages that the work has up to its break; where first pages of the parameters stood
  -- there, theirs before the break
  pub broken : result ≡ status.NoInverse → (new ≡ old)
      ⊎ Leaves (λ t bytes. IsLeft params t.now.contents bytes × ((k : ℕ) → IsPrefix params k t.now.contents → AreBegun params t.now.contents bytes)) old new
  -- what stood there
  pub refused : result ≡ status.NotATable → new ≡ old
  -- where every image had the first pages of the parameters, each image at each moment since has as many, and none that are not theirs
  pub stays : (k : ℕ) → Stays (HasPages params k) old new

-- the source's bytes are read up to a Done page or to what is refused, or bytes stand on the disk
abbrev pub Concludes : Status → Type 0
Concludes result = (result ≡ status.Done) ⊎ (result ≡ status.NotATable) ⊎ (result ≡ status.NotComplete)

-- what a run leaves that copies a version 1 file, whatever the source gives, by its status
pub record MigrateLeaves (left : Option (List ℕ)) (result : Status) (old new : Option Trace) : Type 0 where
  -- over an empty disk the pages that reading passes, in version 2, with nothing pending
  pub pages : Concludes result
      → IfSome old (λ t. t.now.contents ≡ []
      → IfSome left (λ given. (pages : List Page) → AreOldPages given pages → Leaves (λ t bytes. bytes ≡ file_of pages) old new))
  -- and the last of them is Done
  pub last : result ≡ status.Done → IfSome left (λ given. (pages : List Page) → AreOldPages given pages → EndsDone pages)
  -- where the source holds the version 1 file of some parameters, the file of these
  pub file : result ≡ status.Done
      → IfSome left (λ given. (params : Params) → IsParams params → IsOldFile params given → Leaves (λ t bytes. IsFile params bytes) old new)
  -- what stood there, where anything did
  pub stands : IfSome old (λ t. 0 < length t.now.contents → new ≡ old)
  -- at each moment since, each image is not foreign and reads as a first part of the pages, and pages that are sealed stay
  pub climbs : IfSome left (λ given. (pages : List Page) → AreOldPages given pages → Climbs pages old new)
