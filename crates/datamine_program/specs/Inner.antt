-- What single steps of the code answer. No public clause cites these, so a reader need not believe them.
use Rattle.std.specs.Prelude.{◌≡◌, ◌⊎◌, ℕ, zero, suc, ◌+◌, ◌<◌, Bool, true, false, Ok, Err, List, [], ◌∷◌, ◌++◌, length, map, slice_get, codes, decimal, Option, Some, None, IfSome}
use Rattle.std.specs.List.{AllByRecursion}
use Rattle.word_letters.specs.Inner.{part_text}
use Rattle.zeta_model.specs.declared.Letter.{Letter}
use Rattle.zeta_model.specs.Indices.{index_of}
use Rattle.zeta_model.specs.WordLists.{admissible_within}
use Rattle.zeta_model.specs.Words.{has_index}
use Rattle.column_order.specs.Columns.{ColumnList}
use Rattle.outside_io.specs.Traces.{Trace}
use Rattle.line_loop.specs.Lines.{input_limit}
use Rattle.line_loop.specs.Talk.{Tells, TakesAtMost}
use Rattle.page_codec.specs.declared.params.Params.{Params}
use Rattle.page_codec.specs.declared.parts.FinalEntry.{FinalEntry}
use Rattle.page_codec.specs.declared.page.Page.{Page}
use Rattle.page_codec.specs.Bounds.{IsRowData}
use Rattle.page_codec.specs.Places.{AreBelow, FitsPlace, WalkAt, walk_of}
use Rattle.page_file.specs.Files.{IsForeign, IsBadPage, IsSealed, ReadsAs}
use Rattle.page_file.specs.declared.fault.FileFault.{FileFault}
use Rattle.page_file.specs.declared.fault.FileFault.TheVariants as reading
use Rattle.table_model.specs.Conversion.{Converts}
use Rattle.table_model.specs.ListedSpan.{values_of, count_of}
use Rattle.table_model.specs.ReducedRows.{IsReducedRows, IsUnbroken, BreaksFirst}
use Rattle.table_model.specs.Faults.{IsNotInvertible, IsFirstWithout}
use Rattle.table_model.specs.Faults.Verdict.{Whole}
use Rattle.file_model.specs.FinalRows.{finals_of, finals_of_page, final_row, EndsDone, final_lead, IsFound}
use Rattle.file_model.specs.Builds.{FitsAt, FitsOwn, BuildEnds}
use Rattle.file_model.specs.Builds.Answer.{Exists, NoInverseWord as SaysNoInverseWord, NoInverseRelation as SaysNoInverseRelation}
use Rattle.table_build.specs.declared.fault.BuildFault.{BuildFault}
use Rattle.table_build.specs.declared.fault.BuildFault.TheVariants as built
use Rattle.table_build.specs.declared.fault.ResumeFault.{ResumeFault}
use Rattle.table_build.specs.declared.fault.ResumeFault.TheVariants as resumed
use Rattle.table_migration.specs.Migrations.{Answer, MigrationEnds}
use Rattle.table_migration.specs.Migrations.Answer.{BadPage as SaysBadPage, Misfit as SaysMisfit, NotDone as SaysNotDone}
use Rattle.table_migration.specs.declared.fault.MigrateFault.{MigrateFault}
use Rattle.table_migration.specs.declared.fault.MigrateFault.TheVariants as copied
use Rattle.table_rewrite.specs.Replies.{AreReplies}
use Rattle.line_samples.specs.Samples.{sample_lines}
use Rattle.whole_runs.specs.declared.command.Command.TheVariants.{Dual, List as ListOf, Reduce, Sample, Probe, Show, Check, Rewrite, Rational, Build, Resume, Migrate}
use Rattle.whole_runs.specs.declared.status.Status.{Status}
use Rattle.whole_runs.specs.declared.status.Status.TheVariants as status
use Rattle.whole_runs.specs.CommandLine.{Asked}
use Rattle.whole_runs.specs.Outcomes.{Outcome, AnswersSeen, AsksForReplies, AsksForPages, ReadsSource, NamesFile}
use Rattle.whole_runs.specs.Texts.{line, word_line, relation_line, term_line, sample_line}
use Rattle.whole_runs.specs.FileTexts.{params_text, row_lines}
use Rattle.whole_runs.specs.FileWorks.{IsTableFile}
use Rattle.file_model.specs.TableOf.{IsTableOf}
use Rattle.whole_runs.specs.Works.{Work}
use Rattle.whole_runs.specs.Wanted.{IsWork}
use Rattle.whole_runs.specs.Works.Work.{Writes}
use Rattle.datamine_program.specs.declared.table_file.ShowFault.{ShowFault}
use Rattle.datamine_program.specs.declared.table_file.ShowFault.TheVariants as shows
use Rattle.datamine_program.specs.declared.table.TableFault.{TableFault}
use Rattle.datamine_program.specs.declared.table.TableFault.TheVariants.{NoInverseWord, NoInverseRelation, Memory}
use Rattle.lyndon_polys.specs.declared.fault.LyndonFault.{LyndonFault}
use Rattle.lyndon_polys.specs.declared.fault.LyndonFault.TheVariants as conversion
use Rattle.table_rows.specs.declared.fault.RowsFault.{RowsFault}
use Rattle.table_rows.specs.declared.fault.RowsFault.TheVariants as work
use Rattle.page_file.specs.Notes.{params_of}
use Rattle.table_checker.specs.declared.fault.CheckFault.{CheckFault}
use Rattle.table_checker.specs.declared.fault.CheckFault.TheVariants as checks
use Rattle.table_checker.specs.Checks.{IsRowOf, IsRefusal}
use Rattle.truncated_sums.specs.declared.fault.SumFault.{SumFault}
use Rattle.truncated_sums.specs.declared.fault.SumFault.TheVariants as sums

-- the columns of parameters, whose shuffles convert and whose work is broken nowhere, and the reduced rows of all listed relations
pub record IsTableMade (params : Params) (columns : ColumnList) (count : ℕ) (lead : ℕ → ℕ) (rows : ℕ → ℕ → ℕ) : Type 0 where
  pub are_columns : IsTableOf params columns
  pub converts : Converts params.modulus columns
  pub unbroken : IsUnbroken params.modulus columns (values_of params.modulus columns) (count_of columns)
  pub reduced : IsReducedRows params.modulus columns (values_of params.modulus columns) (count_of columns) count lead rows

-- the replies by so many reduced rows over so many columns of the table of parameters
pub record AreTableReplies (params : Params) (row_count column_count : ℕ) (reply : List ℕ → List ℕ) : Type 0 where
  pub columns : ColumnList
  pub lead : ℕ → ℕ
  pub rows : ℕ → ℕ → ℕ
  pub made : IsTableMade params columns row_count lead rows
  pub width : column_count ≡ length columns.list
  pub replies : AreReplies params.modulus columns row_count lead rows reply

-- the line of what is counted
abbrev pub counts_text : ℕ → ℕ → ℕ → ℕ → ℕ → ℕ → List ℕ
counts_text rows columns lines zeros distinct terms =
    codes "rows " ++ (decimal rows ++ (codes ", columns " ++ (decimal columns ++ (codes ", lines " ++ (decimal lines
    ++ (codes ", zero " ++ (decimal zeros ++ (codes ", distinct " ++ (decimal distinct
    ++ (codes ", terms " ++ (decimal terms ++ 10 ∷ [])))))))))))

-- the line of a sample of replies, by lines over the words of the table of parameters
abbrev pub IsSampleText : Params → ℕ → ℕ → ℕ → ℕ → (List ℕ → List ℕ) → List ℕ → Type 0
IsSampleText params seed number rows columns reply text =
    text ≡ sample_line rows columns (map reply (sample_lines (admissible_within params.weight params.depth) seed number))

-- a fault of the words or of the relations is one of the table
abbrev pub conversion_fault : LyndonFault → TableFault
conversion_fault (conversion.NoInverse value word) = NoInverseWord value word
conversion_fault (conversion.Memory e) = Memory

abbrev pub relation_fault : RowsFault → TableFault
relation_fault (work.NoInverse value n) = NoInverseRelation value n
relation_fault (work.Memory e) = Memory

-- the first word at which the table of parameters does not convert, or the first relation at which its work is broken, with the residue
abbrev pub IsFaultOf : Params → TableFault → Type 0
IsFaultOf params (NoInverseWord value word) = (columns : ColumnList) × IsTableOf params columns × IsNotInvertible params.modulus columns word value
IsFaultOf params (NoInverseRelation value n) =
    (columns : ColumnList) × IsTableOf params columns × Converts params.modulus columns × (n < count_of columns)
    × BreaksFirst params.modulus columns (values_of params.modulus columns) n value
IsFaultOf params Memory = Unit {0}

-- the line of the fault is the work, unless memory was wanting
abbrev pub IsFaultFor : Asked → Option (List ℕ) → TableFault → Type 0
IsFaultFor asked contents (NoInverseWord value word) = IsWork asked contents (Writes (word_line value word) status.NoInverse)
IsFaultFor asked contents (NoInverseRelation value n) = IsWork asked contents (Writes (relation_line value n) status.NoInverse)
IsFaultFor asked contents Memory = Unit {0}

abbrev pub IsSumFaultFor : Asked → Option (List ℕ) → SumFault → Type 0
IsSumFaultFor asked contents (sums.NoInverse value term) = IsWork asked contents (Writes (term_line value term) status.NoInverse)
IsSumFaultFor asked contents (sums.Memory e) = Unit {0}

-- the word that is told has an index
abbrev pub HasText : TableFault → Type 0
HasText (NoInverseWord value word) = has_index word ≡ true
HasText (NoInverseRelation value n) = Unit {0}
HasText Memory = Unit {0}

-- what a run has of what was asked for, over what the disk tells, where neither words nor parameters are refused
pub record IsRun (asked : Asked) (contents left left_new taken taken_new : Option (List ℕ)) (result : Status) : Type 0 where
  pub outcome : Outcome asked contents left taken taken_new result
  pub answered : result ≡ status.ReadFault → (work : Work) → IsWork asked contents work → AnswersSeen work left left_new taken taken_new
  pub read_fault : result ≡ status.ReadFault → ReadsSource asked
  pub done : result ≡ status.Done → AsksForReplies asked → Tells left_new []
  pub takes : ¬ (AsksForPages asked) → TakesAtMost (input_limit + 1) left left_new
  pub usage : ¬ (result ≡ status.Usage)
  pub params : ¬ (result ≡ status.Params)
  pub disk_fault : result ≡ status.DiskFault → NamesFile asked

-- the walk stands behind some pages
abbrev pub IsBehind : WalkAt → List Page → Type 0
IsBehind walk before = walk ≡ walk_of walk.params walk.relations before

-- a fault of looking at a file or of reading a page
abbrev pub reading_fault : FileFault → ShowFault
reading_fault reading.DiskFault = shows.DiskFault
reading_fault (reading.Foreign n) = shows.Foreign n
reading_fault (reading.BadPage i) = shows.BadPage i
reading_fault (reading.Memory e) = shows.Memory

-- no page is sealed, or the first is no header
abbrev pub without_header : ℕ → ShowFault
without_header zero = shows.NoPage
without_header (suc n) = shows.Misplaced 0

-- why a page is not gone over that comes behind others: a cause for each fault; over a disk that tells, each page is spelled
abbrev pub IsPageFault : Type 0 → Option Trace → WalkAt → ℕ → ShowFault → Type 0
IsPageFault rose told walk i shows.DiskFault = rose
IsPageFault rose told walk i (shows.Foreign n) = ⊥
IsPageFault rose told walk i (shows.BadPage n) = told ≡ None
IsPageFault rose told walk i (shows.Misplaced n) =
    (n ≡ i) × IfSome told (λ t. (pages before : List Page) → IsSealed pages t.now.contents → IsBehind walk before
    → (page : Page) × (slice_get pages i ≡ Some page) × ¬ (FitsPlace walk.params walk.relations before page))
IsPageFault rose told walk i shows.NoPage = ⊥
IsPageFault rose told walk i shows.Memory = Unit {0}

-- why the table in a file is not shown: a cause for each fault
abbrev pub IsShowFault : Type 0 → Option Trace → ShowFault → Type 0
IsShowFault rose told shows.DiskFault = rose
IsShowFault rose told (shows.Foreign n) = IfSome told (λ t. IsForeign t.now.contents × (n ≡ length t.now.contents))
IsShowFault rose told (shows.BadPage i) = IfSome told (λ t. (¬ (IsForeign t.now.contents)) × IsBadPage i t.now.contents)
IsShowFault rose told (shows.Misplaced i) =
    IfSome told (λ t. (pages : List Page) × ReadsAs pages t.now.contents × IsFirstWithout (FitsOwn pages) (length pages) i)
IsShowFault rose told shows.NoPage = IfSome told (λ t. ReadsAs [] t.now.contents)
IsShowFault rose told shows.Memory = Unit {0}

-- all pages fit their places, and the lines of their rows stand behind the head
pub record ShowsAll (params : Params) (columns : List (List (List Letter))) (pages : List Page) (head lines : List ℕ) : Type 0 where
  pub fit : (i : ℕ) → i < length pages → FitsAt params pages i
  pub lines_are : lines ≡ head ++ row_lines params.modulus columns (finals_of pages)

-- how a command over a file ends that reads no line
abbrev pub EndsFile : Status → Type 0
EndsFile result =
    (result ≡ status.Done) ⊎ (result ≡ status.Memory) ⊎ (result ≡ status.DiskFault) ⊎ (result ≡ status.WriteFault) ⊎ (result ≡ status.NotATable)
    ⊎ (result ≡ status.NotComplete) ⊎ (result ≡ status.NoInverse)

-- the command is about the table in a file
abbrev pub ReadsTable : Asked → Type 0
ReadsTable (Ok (Dual m)) = ⊥
ReadsTable (Ok (ListOf w d)) = ⊥
ReadsTable (Ok (Reduce params)) = ⊥
ReadsTable (Ok (Sample params seed count)) = ⊥
ReadsTable (Ok (Probe n m)) = ⊥
ReadsTable (Ok Show) = Unit {0}
ReadsTable (Ok Check) = Unit {0}
ReadsTable (Ok Rewrite) = Unit {0}
ReadsTable (Ok Rational) = Unit {0}
ReadsTable (Ok (Build params)) = ⊥
ReadsTable (Ok (Resume params)) = ⊥
ReadsTable (Ok Migrate) = ⊥
ReadsTable (Err fault) = ⊥

-- and that table is checked
abbrev pub JudgesFile : Asked → Type 0
JudgesFile (Ok (Dual m)) = ⊥
JudgesFile (Ok (ListOf w d)) = ⊥
JudgesFile (Ok (Reduce params)) = ⊥
JudgesFile (Ok (Sample params seed count)) = ⊥
JudgesFile (Ok (Probe n m)) = ⊥
JudgesFile (Ok Show) = ⊥
JudgesFile (Ok Check) = Unit {0}
JudgesFile (Ok Rewrite) = Unit {0}
JudgesFile (Ok Rational) = Unit {0}
JudgesFile (Ok (Build params)) = ⊥
JudgesFile (Ok (Resume params)) = ⊥
JudgesFile (Ok Migrate) = ⊥
JudgesFile (Err fault) = ⊥

-- the work is what is asked for with the contents that the disk tells
abbrev pub IsFileWork : Asked → Option Trace → Work → Type 0
IsFileWork asked told work = IfSome told (λ t. IsWork asked (Some t.now.contents) work)

-- the rows are the final rows of the bytes, which are a whole file of the parameters
pub record AreFinalRows (params : Params) (columns : ColumnList) (count : ℕ) (lead : ℕ → ℕ) (rows : ℕ → ℕ → ℕ) (bytes : List ℕ) : Type 0 where
  pub pages : List Page
  pub file : IsTableFile bytes params pages
  pub closed : EndsDone pages
  pub found : IsFound params columns pages Whole
  pub as_many : count ≡ length (finals_of pages)
  pub leads : lead ≡ final_lead pages
  pub are_rows : rows ≡ final_row pages

pub record IsWholeTable (told : Option Trace) (params : Params) (columns : ColumnList) (count : ℕ) (lead : ℕ → ℕ) (rows : ℕ → ℕ → ℕ) : Type 0 where
  pub are_columns : IsTableOf params columns
  pub finals : IfSome told (λ t. AreFinalRows params columns count lead rows t.now.contents)

-- what is told of a fault can be printed: the word has an index, and what is left of a relation is a row of the table
abbrev pub CanTell : Params → CheckFault → Type 0
CanTell params checks.DiskFault = Unit {0}
CanTell params (checks.BadPage i) = Unit {0}
CanTell params (checks.Misfit i) = Unit {0}
CanTell params (checks.NotDone n) = Unit {0}
CanTell params (checks.NoInverse value word) = has_index word ≡ true
CanTell params (checks.BadRow i) = Unit {0}
CanTell params (checks.NotReduced i) = Unit {0}
CanTell params (checks.Missing n rest) = IsRowOf params rest
CanTell params (checks.Memory e) = Unit {0}

-- why the table of the parameters is refused, in a file that reads as pages behind its header
abbrev pub IsCheckFault : Type 0 → Option Trace → Params → CheckFault → Type 0
IsCheckFault rose told params fault =
    IsRefusal rose told (Some params) fault
    × IfSome told (λ t. (pages : List Page) × ReadsAs pages t.now.contents × (params_of pages ≡ Some params))

-- what is told of a build that went wrong can be printed
abbrev pub CanTellFault : BuildFault → Type 0
CanTellFault built.DiskFault = Unit {0}
CanTellFault (built.Exists n) = Unit {0}
CanTellFault (built.BadPage i) = Unit {0}
CanTellFault (built.NoInverseWord value word) = has_index word ≡ true
CanTellFault (built.NoInverseRelation value n) = Unit {0}
CanTellFault (built.Differs i) = Unit {0}
CanTellFault (built.Memory e) = Unit {0}

-- how a run ends that tells it
abbrev pub StatusOfFault : BuildFault → Status → Type 0
StatusOfFault built.DiskFault result = result ≡ status.DiskFault
StatusOfFault (built.Exists n) result = (result ≡ status.NotATable) ⊎ (result ≡ status.WriteFault)
StatusOfFault (built.BadPage i) result = (result ≡ status.NotATable) ⊎ (result ≡ status.WriteFault)
StatusOfFault (built.NoInverseWord value word) result = (result ≡ status.NoInverse) ⊎ (result ≡ status.WriteFault)
StatusOfFault (built.NoInverseRelation value n) result = (result ≡ status.NoInverse) ⊎ (result ≡ status.WriteFault)
StatusOfFault (built.Differs i) result = (result ≡ status.NotATable) ⊎ (result ≡ status.WriteFault)
StatusOfFault (built.Memory e) result = result ≡ status.Memory

-- what is said of the bytes on the disk, where it tells; a page that was read again is not what was sealed only where it does not
abbrev pub IsBuildFault : Params → Option Trace → BuildFault → Type 0
IsBuildFault params told built.DiskFault = Unit {0}
IsBuildFault params told (built.Exists n) = IfSome told (λ t. BuildEnds params t.now.contents (Exists n))
IsBuildFault params told (built.BadPage i) = told ≡ None
IsBuildFault params told (built.NoInverseWord value word) = IfSome told (λ t. BuildEnds params t.now.contents (SaysNoInverseWord value word))
IsBuildFault params told (built.NoInverseRelation value n) = IfSome told (λ t. BuildEnds params t.now.contents (SaysNoInverseRelation value n))
IsBuildFault params told (built.Differs i) = told ≡ None
IsBuildFault params told (built.Memory e) = Unit {0}

-- how a run ends that tells why a build did not go on, where memory suffices and no write fails
abbrev pub end_of : ResumeFault → Status
end_of resumed.DiskFault = status.DiskFault
end_of (resumed.Foreign n) = status.NotATable
end_of (resumed.BadPage i) = status.NotATable
end_of (resumed.Other params) = status.NotATable
end_of (resumed.Misfit i) = status.NotATable
end_of (resumed.NoInverseWord value word) = status.NoInverse
end_of (resumed.NotForward i) = status.NotATable
end_of (resumed.NoInverseRelation value n) = status.NoInverse
end_of (resumed.Differs i) = status.NotATable
end_of (resumed.Memory e) = status.Memory

-- so it ends, unless memory is wanting or a write fails
abbrev pub EndsAs : Status → Status → Type 0
EndsAs end result = (result ≡ end) ⊎ (result ≡ status.Memory) ⊎ (result ≡ status.WriteFault)

-- how a run of `migrate` may end
abbrev pub EndsCopy : Status → Type 0
EndsCopy result =
    (result ≡ status.Done) ⊎ (result ≡ status.Memory) ⊎ (result ≡ status.DiskFault) ⊎ (result ≡ status.ReadFault) ⊎ (result ≡ status.WriteFault)
    ⊎ (result ≡ status.NotATable) ⊎ (result ≡ status.NotComplete)

-- how it ends where it tells this
abbrev pub copy_end : MigrateFault → Status
copy_end copied.DiskFault = status.DiskFault
copy_end copied.ReadFault = status.ReadFault
copy_end (copied.Exists n) = status.NotATable
copy_end (copied.BadPage i) = status.NotATable
copy_end (copied.Misfit i) = status.NotATable
copy_end (copied.NotDone n) = status.NotComplete
copy_end (copied.Memory e) = status.Memory

-- nothing stood on the disk, and this is said of the bytes of the source, where they tell
abbrev pub SaysOfCopy : Option Trace → Option (List ℕ) → Answer → Type 0
SaysOfCopy told left answer = IfSome told (λ t. t.now.contents ≡ []) × IfSome left (λ bytes. MigrationEnds bytes answer)

-- so it is where this is told
abbrev pub IsCopyFault : Option Trace → Option (List ℕ) → MigrateFault → Type 0
IsCopyFault told left copied.DiskFault = Unit {0}
IsCopyFault told left copied.ReadFault = Unit {0}
IsCopyFault told left (copied.Exists n) = IfSome told (λ t. (n ≡ length t.now.contents) × (0 < n))
IsCopyFault told left (copied.BadPage i) = SaysOfCopy told left (SaysBadPage i)
IsCopyFault told left (copied.Misfit i) = SaysOfCopy told left (SaysMisfit i)
IsCopyFault told left (copied.NotDone n) = SaysOfCopy told left (SaysNotDone n)
IsCopyFault told left (copied.Memory e) = Unit {0}
