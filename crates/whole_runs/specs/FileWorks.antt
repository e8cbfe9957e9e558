-- What is to be done with the contents of a file.
use Rattle.std.specs.Prelude.{◌≡◌, ℕ, ◌<◌, Some, List, [], length, codes}
use Rattle.column_order.specs.Columns.{ColumnList}
use Rattle.page_codec.specs.declared.params.Params.{Params}
use Rattle.page_codec.specs.declared.page.Page.{Page}
use Rattle.page_file.specs.Files.{IsForeign, IsBadPage, ReadsAs}
use Rattle.page_file.specs.Notes.{params_of}
use Rattle.poly_print.specs.Polynomials.{residues_text}
use Rattle.table_model.specs.ListedSpan.{count_of}
use Rattle.table_model.specs.Faults.{IsFirstWithout, Verdict}
use Rattle.table_model.specs.Faults.Verdict.{Whole, NoInverse, BadRow, NotReduced, Missing}
use Rattle.file_model.specs.FinalRows.{finals_of, final_row, final_lead, IsFound, EndsDone}
use Rattle.file_model.specs.TableOf.{IsTableOf}
use Rattle.file_model.specs.Builds.{FitsAt, FitsOwn, Answer, BuildEnds, ResumeEnds}
use Rattle.file_model.specs.Builds.Answer.{Exists, Foreign, BadPage, Other, Misfit, NoInverseWord, NotForward, NoInverseRelation, DiffersAt, Built}
use Rattle.whole_runs.specs.declared.status.Status.TheVariants as status
use Rattle.whole_runs.specs.FileTexts.{foreign_line, unreadable_line, misplaced_line, unfinished_line, bad_row_line, not_reduced_line, missing_line, complete_line, table_lines}
use Rattle.whole_runs.specs.FileTexts.{exists_line, other_line, not_forward_line, differs_line, figures_line}
use Rattle.whole_runs.specs.Texts.{word_line, relation_line}
use Rattle.whole_runs.specs.Works.{Work, ByRows}
use Rattle.whole_runs.specs.Works.Work.{Writes}

-- the bytes read as pages that begin with a header and all fit their places in a file of its parameters
pub record IsTableFile (bytes : List ℕ) (params : Params) (pages : List Page) : Type 0 where
  pub reads : ReadsAs pages bytes
  pub header : params_of pages ≡ Some params
  pub fit : (i : ℕ) → i < length pages → FitsAt params pages i

-- the bytes are no table's: they are foreign, or a page is the first that is not spelled behind its open gate, or the first that does not fit
-- its place
pub data IsNoTable (bytes : List ℕ) (work : Work) : Type 0 where
  foreign : IsForeign bytes → work ≡ Writes (foreign_line (length bytes)) status.NotATable → IsNoTable bytes work
  unreadable : ¬ (IsForeign bytes) → (i : ℕ) → IsBadPage i bytes → work ≡ Writes (unreadable_line i) status.NotATable → IsNoTable bytes work
  misplaced : (pages : List Page) → ReadsAs pages bytes → (i : ℕ) → IsFirstWithout (FitsOwn pages) (length pages) i
      → work ≡ Writes (misplaced_line i) status.NotATable → IsNoTable bytes work

-- what is no table's is refused, and so is a file without a sealed page; else the header, the number of pages and the sealed final rows are written
pub data IsShow (bytes : List ℕ) (work : Work) : Type 0 where
  no_table : IsNoTable bytes work → IsShow bytes work
  nothing : ReadsAs [] bytes → work ≡ Writes (unfinished_line 0) status.NotComplete → IsShow bytes work
  shown : (params : Params) (pages : List Page) → IsTableFile bytes params pages → (columns : ColumnList) → IsTableOf params columns
      → work ≡ Writes (table_lines params columns.list pages) status.Done → IsShow bytes work

-- something is done with complete rows; else what is found of them is told
abbrev pub IsAnswer : ByRows → ColumnList → ℕ → (ℕ → ℕ) → (ℕ → ℕ → ℕ) → Verdict → Work → Type 0
IsAnswer done columns count lead rows Whole work = done columns count lead rows work
IsAnswer done columns count lead rows (NoInverse u residue) work = work ≡ Writes (word_line residue u) status.NoInverse
IsAnswer done columns count lead rows (BadRow i) work = work ≡ Writes (bad_row_line i) status.NotComplete
IsAnswer done columns count lead rows (NotReduced i) work = work ≡ Writes (not_reduced_line i) status.NotComplete
IsAnswer done columns count lead rows (Missing n rest) work =
    work ≡ Writes (missing_line n (residues_text columns.list rest)) status.NotComplete

-- the work over the table in a file: what is no table's is refused, and so is one that is not done; else what is found of its rows says what is
-- done
pub data IsOverFile (bytes : List ℕ) (done : Params → ByRows) (work : Work) : Type 0 where
  no_table : IsNoTable bytes work → IsOverFile bytes done work
  unfinished : (pages : List Page) → ReadsAs pages bytes → ((i : ℕ) → i < length pages → FitsOwn pages i) → ¬ (EndsDone pages)
      → work ≡ Writes (unfinished_line (length pages)) status.NotComplete → IsOverFile bytes done work
  judged : (params : Params) (pages : List Page) → IsTableFile bytes params pages → EndsDone pages → (columns : ColumnList) → IsTableOf params columns
      → (found : Verdict) → IsFound params columns pages found
      → IsAnswer (done params) columns (length (finals_of pages)) (final_lead pages) (final_row pages) found work → IsOverFile bytes done work

-- the line of a complete table is written
abbrev pub CompletesBy : Params → ByRows
CompletesBy params columns count lead rows work = work ≡ Writes (complete_line params (count_of columns) count) status.Done

-- the line of what is said of a file that is built on
abbrev pub told_work : List ℕ → Answer → Work
told_work done (Exists n) = Writes (exists_line n) status.NotATable
told_work done (Foreign n) = Writes (foreign_line n) status.NotATable
told_work done (BadPage i) = Writes (unreadable_line i) status.NotATable
told_work done (Other params) = Writes (other_line params) status.NotATable
told_work done (Misfit i) = Writes (misplaced_line i) status.NotATable
told_work done (NoInverseWord residue u) = Writes (word_line residue u) status.NoInverse
told_work done (NotForward i) = Writes (not_forward_line i) status.NotATable
told_work done (NoInverseRelation residue n) = Writes (relation_line residue n) status.NoInverse
told_work done (DiffersAt i) = Writes (differs_line i) status.NotATable
told_work done (Built figures) = Writes (figures_line done figures) status.Done

-- what is said of a file in which the table of the parameters is to be built
pub record IsBuild (params : Params) (bytes : List ℕ) (work : Work) : Type 0 where
  pub answer : Answer
  pub ends : BuildEnds params bytes answer
  pub told : work ≡ told_work (codes "built") answer

-- what is said of a file with which a stopped build of the table goes on, whatever stands there
pub record IsResume (params : Params) (bytes : List ℕ) (work : Work) : Type 0 where
  pub answer : Answer
  pub ends : ResumeEnds params bytes answer
  pub told : work ≡ told_work (codes "resumed") answer
