-- What any run has of the whole one.
use Rattle.std.specs.Prelude.{◌≡◌, ◌⊎◌, ℕ, List, [], Option, IsSome, Ok, Err}
use Rattle.std.specs.Option.{option_map}
use Rattle.outside_io.specs.Traces.{Trace}
use Rattle.outside_io.specs.Told.{before_told, after_told, AppendsFront}
use Rattle.line_loop.specs.Lines.{whole_output, input_limit}
use Rattle.line_loop.specs.Talk.{Tells}
use Rattle.page_codec.specs.declared.params.Params.{Params}
use Rattle.file_model.specs.FinalRows.{IsWholeFile}
use Rattle.file_model.specs.Builds.{Figures, Answer}
use Rattle.file_model.specs.Builds.Answer.{Built}
use Rattle.table_migration.specs.Migrations.{MigrationEnds}
use Rattle.table_migration.specs.Migrations.Answer.{Migrated}
use Rattle.table_rewrite.specs.Telling.{TellsClasses}
use Rattle.fraction_replies.specs.Telling.{TellsByFractions}
use Rattle.whole_runs.specs.declared.command.Command.TheVariants.{Dual, List as ListOf, Reduce, Sample, Probe, Show, Check, Rewrite, Rational, Build, Resume, Migrate}
use Rattle.whole_runs.specs.declared.command.WordsFault.TheVariants.{Usage, Param, Count, Terms}
use Rattle.whole_runs.specs.declared.status.Status.{Status}
use Rattle.whole_runs.specs.Statuses.{BreaksOff}
use Rattle.whole_runs.specs.CommandLine.{Asked}
use Rattle.whole_runs.specs.FileTexts.{figures_line, migrated_line}
use Rattle.whole_runs.specs.Works.{Work, output_of, status_of, replies_of}
use Rattle.whole_runs.specs.Wanted.{IsWorkOver}

-- a parameter test fails
abbrev pub FailsTest : Asked → Type 0
FailsTest (Ok command) = ⊥
FailsTest (Err Usage) = ⊥
FailsTest (Err (Param fault)) = Unit {0}
FailsTest (Err (Count n)) = Unit {0}
FailsTest (Err (Terms n)) = Unit {0}

-- the command replies to the lines of the source, where nothing is refused
abbrev pub AsksForReplies : Asked → Type 0
AsksForReplies (Ok (Dual m)) = Unit {0}
AsksForReplies (Ok (ListOf w d)) = ⊥
AsksForReplies (Ok (Reduce params)) = Unit {0}
AsksForReplies (Ok (Sample params seed count)) = ⊥
AsksForReplies (Ok (Probe n m)) = Unit {0}
AsksForReplies (Ok Show) = ⊥
AsksForReplies (Ok Check) = ⊥
AsksForReplies (Ok Rewrite) = Unit {0}
AsksForReplies (Ok Rational) = Unit {0}
AsksForReplies (Ok (Build params)) = ⊥
AsksForReplies (Ok (Resume params)) = ⊥
AsksForReplies (Ok Migrate) = ⊥
AsksForReplies (Err fault) = ⊥

-- the command reads the pages of an old file from the source
abbrev pub AsksForPages : Asked → Type 0
AsksForPages asked = asked ≡ Ok Migrate

-- the command reads from the source, where nothing is refused
abbrev pub ReadsSource : Asked → Type 0
ReadsSource (Ok Migrate) = Unit {0}
ReadsSource asked = AsksForReplies asked

-- the command is done with a file, which its second word names
abbrev pub NamesFile : Asked → Type 0
NamesFile (Ok (Dual m)) = ⊥
NamesFile (Ok (ListOf w d)) = ⊥
NamesFile (Ok (Reduce params)) = ⊥
NamesFile (Ok (Sample params seed count)) = ⊥
NamesFile (Ok (Probe n m)) = ⊥
NamesFile (Ok Show) = Unit {0}
NamesFile (Ok Check) = Unit {0}
NamesFile (Ok Rewrite) = Unit {0}
NamesFile (Ok Rational) = Unit {0}
NamesFile (Ok (Build params)) = Unit {0}
NamesFile (Ok (Resume params)) = Unit {0}
NamesFile (Ok Migrate) = Unit {0}
NamesFile (Err fault) = ⊥

-- what a read of the disk gives, where it tells
abbrev pub contents_of : Option Trace → Option (List ℕ)
contents_of told = option_map (λ t. t.now.contents) told

-- the disk tells its contents, where they are asked for, and the source its bytes, where pages are
abbrev pub IsTold : Asked → Option (List ℕ) → Option (List ℕ) → Type 0
IsTold asked contents left = (NamesFile asked → IsSome contents) × (AsksForPages asked → IsSome left)

-- what a run has of one work: the input is what the source tells, where it tells
pub record Has (work : Work) (left taken taken_new : Option (List ℕ)) (result : Status) : Type 0 where
  pub input : List ℕ
  pub told : Tells left input
  pub front : AppendsFront taken taken_new (output_of work input)
  pub whole : BreaksOff result ⊎ ((taken_new ≡ after_told taken (output_of work input)) × (result ≡ status_of work input))

-- a run of what was asked for, over what the disk tells: what was written is a first part of the whole run's output; unless want of memory or a
-- fault broke the run off, it is all of it, and the status is the whole run's
pub record Outcome (asked : Asked) (contents left taken taken_new : Option (List ℕ)) (result : Status) : Type 0 where
  pub input : List ℕ
  pub told : Tells left input
  pub front : (work : Work) → IsWorkOver asked contents left work → AppendsFront taken taken_new (output_of work input)
  pub whole : IsTold asked contents left
      → BreaksOff result ⊎ ((work : Work) × IsWorkOver asked contents left work × (taken_new ≡ after_told taken (output_of work input)) × (result ≡ status_of work input))

-- the replies that were written are those to the lines that are whole in the bytes that were read
pub record AnswersSeen (work : Work) (left left_new taken taken_new : Option (List ℕ)) : Type 0 where
  pub seen : List ℕ
  pub read : left ≡ before_told seen left_new
  pub wrote : taken_new ≡ after_told taken (replies_of work seen)

-- each line of the input got its reply, and the replies tell the classes of sums modulo the listed relations of the parameters
pub record RepliesTell (params : Params) (left taken taken_new : Option (List ℕ)) : Type 0 where
  pub input : List ℕ
  pub told : Tells left input
  pub reply : List ℕ → List ℕ
  pub wrote : taken_new ≡ after_told taken (whole_output input_limit reply input)
  pub tells : TellsClasses params.modulus params.weight params.depth reply

-- the same of replies with fractions
pub record FractionsTell (params : Params) (left taken taken_new : Option (List ℕ)) : Type 0 where
  pub input : List ℕ
  pub told : Tells left input
  pub reply : List ℕ → List ℕ
  pub wrote : taken_new ≡ after_told taken (whole_output input_limit reply input)
  pub tells : TellsByFractions params.modulus params.weight params.depth reply

-- the bytes are a whole file with complete rows, and each line got its reply, which tells the class of its sum
pub record FileTells (bytes : List ℕ) (left taken taken_new : Option (List ℕ)) : Type 0 where
  pub file : IsWholeFile bytes
  pub replies : RepliesTell file.params left taken taken_new

-- the same with fractions
pub record FileTellsByFractions (bytes : List ℕ) (left taken taken_new : Option (List ℕ)) : Type 0 where
  pub file : IsWholeFile bytes
  pub replies : FractionsTell file.params left taken taken_new

-- it is said of the bytes that the work came to its end, with figures, and their line was written
pub record FiguresTell (ends : Answer → Type 0) (done : List ℕ) (taken taken_new : Option (List ℕ)) : Type 0 where
  pub figures : Figures
  pub says : ends (Built figures)
  pub wrote : taken_new ≡ after_told taken (figures_line done figures)

-- nothing stood on the disk, the bytes of the source read as an old file up to its Done page, and the line of that was written
pub record CopyTells (bytes given : List ℕ) (taken taken_new : Option (List ℕ)) : Type 0 where
  pub empty : bytes ≡ []
  pub params : Params
  pub pages : ℕ
  pub says : MigrationEnds given (Migrated params pages)
  pub wrote : taken_new ≡ after_told taken (migrated_line params pages)
