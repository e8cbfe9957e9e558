-- Runs of commands about the table in a file, over a disk that tells or not.
use Rattle.std.proofs.Common.{◌≡◌, ℕ, ◌+◌, true, false, List, [], ◌∷◌, length, Option, Some, None, refl, ap, subst, arith}
use Rattle.std.specs.Prelude.{Ok, IfSome}
use Rattle.outside_io.specs.Traces.{Trace}
use Rattle.line_loop.specs.Lines.{input_limit}
use Rattle.line_loop.specs.Talk.{Tells, TakesAtMost}
use Rattle.page_codec.specs.declared.page.Page.{Page}
use Rattle.page_file.specs.Files.{ReadsAs, IsForeign, IsBadPage}
use Rattle.table_model.specs.Faults.{IsFirstWithout}
use Rattle.file_model.specs.Builds.{FitsOwn}
use Rattle.file_model.specs.FinalRows.{EndsDone}
use Rattle.whole_runs.specs.declared.command.Command.TheVariants.{Show, Check, Rewrite, Rational}
use Rattle.whole_runs.specs.declared.status.Status.{Status}
use Rattle.whole_runs.specs.declared.status.Status.TheVariants as status
use Rattle.whole_runs.specs.CommandLine.{Asked}
use Rattle.whole_runs.specs.FileTexts.{foreign_line, unreadable_line, misplaced_line, unfinished_line}
use Rattle.whole_runs.specs.FileWorks.{IsNoTable}
use Rattle.whole_runs.specs.FileWorks.IsNoTable.{foreign, unreadable, misplaced}
use Rattle.whole_runs.specs.FileWorks.IsShow.{no_table as not_shown, nothing}
use Rattle.whole_runs.specs.FileWorks.IsOverFile.{no_table, unfinished}
use Rattle.whole_runs.specs.Wanted.{IsWork}
use Rattle.whole_runs.specs.Works.{Work, ReadsLines}
use Rattle.whole_runs.specs.Works.Work.{Replies, Writes}
use Rattle.whole_runs.specs.Outcomes.{Has, Outcome, AnswersSeen, AsksForReplies, NamesFile, contents_of}
use Rattle.whole_runs.proofs.OneCopy.{untold_work, work_over}
use Rattle.whole_runs.proofs.Outcomes.{outcome_of}
use Rattle.datamine_program.specs.Inner.{ReadsTable, IsFileWork, IsRun}
use Rattle.datamine_program.proofs.Runs.{lines_run, untold_lines_run, reads_lines, EndsLines}

-- a text that is the same is written
pub has_text : (bytes others : List ℕ) (end : Status) (left taken taken_new : Option (List ℕ)) (result : Status) → bytes ≡ others
    → Has (Writes bytes end) left taken taken_new result → Has (Writes others end) left taken taken_new result
has_text bytes others end left taken taken_new result same has = subst (λ (text : List ℕ). Has (Writes text end) left taken taken_new result) same has

-- a command about a file names it
pub names_file : (asked : Asked) → ReadsTable asked → NamesFile asked
names_file (Ok Show) reads = tt
names_file (Ok Check) reads = tt
names_file (Ok Rewrite) reads = tt
names_file (Ok Rational) reads = tt
names_file asked reads = absurd reads

-- where no contents are told no work is
pub no_work : (asked : Asked) → NamesFile asked → (work : Work) → ¬ (IsWork asked None work)
no_work asked names work is = untold_work asked names None work (work_over asked None None work is)

-- a run over what the disk tells
pub named_outcome : (asked : Asked) → NamesFile asked → (told : Option Trace) (work : Work) (left taken taken_new : Option (List ℕ)) (result : Status)
    → IsFileWork asked told work → Has work left taken taken_new result → Outcome asked (contents_of told) left taken taken_new result
named_outcome asked names None work left taken taken_new result is run = record {
  input = run.input;
  told = run.told;
  front = λ v is_work. absurd (untold_work asked names left v is_work);
  whole = λ told. let some : false ≡ true = told.0 names in absurd cc;
}
named_outcome asked names (Some t) work left taken taken_new result is run = outcome_of asked (Some t.now.contents) work left taken taken_new result is run

-- the last page of no pages is not Done
not_done : ¬ (EndsDone [])
not_done (rows, [], is) = cc
not_done (rows, page ∷ front, is) = cc

module _ (asked : Asked) (reads : ReadsTable asked) where
  pub file_outcome : (told : Option Trace) (work : Work) (left taken taken_new : Option (List ℕ)) (result : Status) → IsFileWork asked told work
      → Has work left taken taken_new result → Outcome asked (contents_of told) left taken taken_new result
  file_outcome = named_outcome asked (names_file asked reads)

  -- lines were replied to
  pub file_lines_run : (told : Option Trace) (reply : List ℕ → List ℕ) (left left_new taken taken_new : Option (List ℕ)) (result : Status)
      → IsFileWork asked told (Replies reply) → AsksForReplies asked → EndsLines result
      → Has (Replies reply) left taken taken_new result → TakesAtMost (input_limit + 1) left left_new → (result ≡ status.Done → Tells left_new [])
      → (result ≡ status.ReadFault → AnswersSeen (Replies reply) left left_new taken taken_new)
      → IsRun asked (contents_of told) left left_new taken taken_new result
  file_lines_run None reply left left_new taken taken_new result is asks ends has takes done answered =
      untold_lines_run asked (no_work asked (names_file asked reads)) (names_file asked reads) reply left left_new taken taken_new result asks ends has takes done
  file_lines_run (Some t) reply left left_new taken taken_new result is asks ends has takes done answered =
      lines_run asked (Some t.now.contents) reply is left left_new taken taken_new result asks ends has takes done answered

  -- each work reads lines
  pub file_reads_lines : (told : Option Trace) (reply : List ℕ → List ℕ) → IsFileWork asked told (Replies reply)
      → (work : Work) → IsWork asked (contents_of told) work → ReadsLines work
  file_reads_lines None reply is work is_work = absurd (no_work asked (names_file asked reads) work is_work)
  file_reads_lines (Some t) reply is work is_work = reads_lines asked (Some t.now.contents) reply is work is_work

-- bytes that are no table's are refused
pub refused_work : (asked : Asked) → ReadsTable asked → (bytes : List ℕ) (work : Work) → IsNoTable bytes work → IsWork asked (Some bytes) work
refused_work (Ok Show) reads bytes work is = not_shown is
refused_work (Ok Check) reads bytes work is = no_table is
refused_work (Ok Rewrite) reads bytes work is = no_table is
refused_work (Ok Rational) reads bytes work is = no_table is
refused_work asked reads bytes work is = absurd reads

-- so are bytes without a page
empty_work : (asked : Asked) → ReadsTable asked → (bytes : List ℕ) → ReadsAs [] bytes
    → IsWork asked (Some bytes) (Writes (unfinished_line 0) status.NotComplete)
empty_work (Ok Show) reads bytes is = nothing is refl
empty_work (Ok Check) reads bytes is = unfinished [] is (λ i below. absurd (omega arith)) not_done refl
empty_work (Ok Rewrite) reads bytes is = unfinished [] is (λ i below. absurd (omega arith)) not_done refl
empty_work (Ok Rational) reads bytes is = unfinished [] is (λ i below. absurd (omega arith)) not_done refl
empty_work asked reads bytes is = absurd reads

-- the line of each refusal is the work
module _ (asked : Asked) (reads : ReadsTable asked) where
  pub foreign_refused : (told : Option Trace) (n : ℕ) → IfSome told (λ t. IsForeign t.now.contents × (n ≡ length t.now.contents))
      → IsFileWork asked told (Writes (foreign_line n) status.NotATable)
  foreign_refused None n h = tt
  foreign_refused (Some t) n h =
      refused_work asked reads t.now.contents (Writes (foreign_line n) status.NotATable)
      (foreign h.0 (ap (λ k. Writes (foreign_line k) status.NotATable) h.1))

  pub unreadable_refused : (told : Option Trace) (i : ℕ) → IfSome told (λ t. (¬ (IsForeign t.now.contents)) × IsBadPage i t.now.contents)
      → IsFileWork asked told (Writes (unreadable_line i) status.NotATable)
  unreadable_refused None i h = tt
  unreadable_refused (Some t) i h =
      refused_work asked reads t.now.contents (Writes (unreadable_line i) status.NotATable) (unreadable h.0 i h.1 refl)

  pub misplaced_refused : (told : Option Trace) (i : ℕ)
      → IfSome told (λ t. (pages : List Page) × ReadsAs pages t.now.contents × IsFirstWithout (FitsOwn pages) (length pages) i)
      → IsFileWork asked told (Writes (misplaced_line i) status.NotATable)
  misplaced_refused None i h = tt
  misplaced_refused (Some t) i h =
      refused_work asked reads t.now.contents (Writes (misplaced_line i) status.NotATable) (misplaced h.0 h.1 i h.2 refl)

  pub empty_refused : (told : Option Trace) → IfSome told (λ t. ReadsAs [] t.now.contents)
      → IsFileWork asked told (Writes (unfinished_line 0) status.NotComplete)
  empty_refused None h = tt
  empty_refused (Some t) h = empty_work asked reads t.now.contents h
