-- Where `check`, `rewrite` or `rational` ends with status 0, the file is whole, and replies tell classes.
use Rattle.std.specs.Prelude.{◌≡◌, ℕ, suc, ◌^◌, ◌<◌, List, [], ◌∷◌, ◌++◌, length, take, slice_get, Option, Some, Ok}
use Rattle.std.proofs.Common.{◌∙◌, ap, sym, subst, inl, inr, refl, append_assoc, append-nil, arith}
use Rattle.column_order.specs.Columns.{ColumnList}
use Rattle.outside_io.specs.Told.{after_told}
use Rattle.line_loop.specs.Talk.{Tells}
use Rattle.page_codec.specs.declared.params.Params.{Params}
use Rattle.page_codec.specs.declared.page.Page.{Page}
use Rattle.page_codec.specs.declared.page.Page.TheVariants.{Header, Forward, Final, Done}
use Rattle.page_codec.specs.Places.{FitsPlace, FitBehind}
use Rattle.page_codec.specs.Bounds.{IsParams, IsPage}
use Rattle.page_file.specs.Notes.{params_of}
use Rattle.std.specs.List.{AllByRecursion}
use Rattle.table_model.specs.Faults.Verdict.{Whole, NoInverse, BadRow, NotReduced, Missing}
use Rattle.table_model.specs.ListedSpan.{values_of, count_of, relation_count}
use Rattle.table_model.specs.ReducedRows.{IsReducedRows}
use Rattle.table_model.proofs.CompleteRows.{complete_is_reduced_rows}
use Rattle.file_model.specs.FinalRows.{finals_of, final_row, final_combination, IsWholeFile, EndsDone, final_lead, IsFound}
use Rattle.file_model.specs.TableOf.{IsTableOf}
use Rattle.poly_print.specs.Polynomials.{residues_text}
use Rattle.table_rewrite.specs.Replies.{AreReplies}
use Rattle.table_rewrite.specs.Telling.{TellsClasses}
use Rattle.table_rewrite.proofs.LineReplies.{classes_told}
use Rattle.fraction_replies.specs.Replies.{AreFractionReplies}
use Rattle.fraction_replies.specs.Telling.{TellsByFractions}
use Rattle.fraction_replies.proofs.LineFractions.{classes_told as fraction_classes_told}
use Rattle.whole_runs.specs.declared.command.Command.TheVariants.{Check, Rewrite, Rational}
use Rattle.whole_runs.specs.declared.status.Status.{Status}
use Rattle.whole_runs.specs.declared.status.Status.TheVariants as status
use Rattle.whole_runs.specs.Texts.{word_line}
use Rattle.whole_runs.specs.FileTexts.{foreign_line, unreadable_line, misplaced_line, unfinished_line, bad_row_line, not_reduced_line, missing_line}
use Rattle.whole_runs.specs.FileWorks.{IsTableFile, IsOverFile, CompletesBy}
use Rattle.whole_runs.specs.FileWorks.IsNoTable.{foreign, unreadable, misplaced}
use Rattle.whole_runs.specs.FileWorks.IsOverFile.{no_table, unfinished, judged}
use Rattle.whole_runs.specs.Works.Work.{Writes}
use Rattle.whole_runs.specs.Works.{Work, ByRows, output_of, status_of, RepliesBy, FractionsBy}
use Rattle.whole_runs.specs.Outcomes.{Outcome, FileTells, FileTellsByFractions}
use Rattle.whole_runs.proofs.OneShow.{same_params}
use Rattle.whole_runs.proofs.ReduceTells.{not_broken_off}

-- pages that fit their places one by one fit them in a row
fits_behind : (p : Params) (n : ℕ) (before pages : List Page)
    → ((i : ℕ) → i < length pages → (page : Page) → slice_get pages i ≡ Some page → FitsPlace p n (before ++ take i pages) page) → FitBehind p n before pages
fits_behind p n before [] each = tt
fits_behind p n before (page ∷ pages) each = (
  subst (λ ps. FitsPlace p n ps page) (append-nil before) (each 0 (omega arith) page refl),
  fits_behind p n (before ++ page ∷ []) pages
      (λ i below other at. subst (λ ps. FitsPlace p n ps other) (sym (append_assoc before (page ∷ []) (take i pages))) (each (suc i) (omega arith) other at)),
)

header_params : (pages : List Page) (params : Params) → AllByRecursion IsPage pages → params_of pages ≡ Some params → IsParams params
header_params [] params each is = absurd cc
header_params (Header q ∷ pages) params each is = subst IsParams (same_params q params is) each.0
header_params (Forward page ∷ pages) params each is = absurd cc
header_params (Final page ∷ pages) params each is = absurd cc
header_params (Done rows ∷ pages) params each is = absurd cc

not_refused_table : ◌≡◌ {A = Status} status.Done status.NotATable → ⊥
not_refused_table e = cc

not_incomplete : ◌≡◌ {A = Status} status.Done status.NotComplete → ⊥
not_incomplete e = cc

not_without : ◌≡◌ {A = Status} status.Done status.NoInverse → ⊥
not_without e = cc

-- complete final rows of a closed file, and what was done with them
record IsDoneWith (bytes : List ℕ) (done : Params → ByRows) (work : Work) : Type 0 where
  params : Params
  pages : List Page
  columns : ColumnList
  file : IsTableFile bytes params pages
  closed : EndsDone pages
  are_columns : IsTableOf params columns
  found : IsFound params columns pages Whole
  by_rows : done params columns (length (finals_of pages)) (final_lead pages) (final_row pages) work

module _ (bytes : List ℕ) (done : Params → ByRows) (work : Work) (input : List ℕ) (ends : status.Done ≡ status_of work input) where
  -- the work of a refusal ends otherwise
  refused : {G : Type 0} (text : List ℕ) (end : Status) → work ≡ Writes text end → (status.Done ≡ end → ⊥) → G
  refused text end is other = absurd (other (ends ∙ ap (λ v. status_of v input) is))

  done_with : IsOverFile bytes done work → IsDoneWith bytes done work
  done_with (no_table (foreign f x)) = refused (foreign_line (length bytes)) status.NotATable x not_refused_table
  done_with (no_table (unreadable known i bad x)) = refused (unreadable_line i) status.NotATable x not_refused_table
  done_with (no_table (misplaced ps reads i first x)) = refused (misplaced_line i) status.NotATable x not_refused_table
  done_with (unfinished ps reads fit unclosed x) = refused (unfinished_line (length ps)) status.NotComplete x not_incomplete
  done_with (judged p ps file shut c of Whole found by) =
      record { params = p; pages = ps; columns = c; file = file; closed = shut; are_columns = of; found = found; by_rows = by }
  done_with (judged p ps file shut c of (NoInverse u r) found x) = refused (word_line r u) status.NoInverse x not_without
  done_with (judged p ps file shut c of (BadRow i) found x) = refused (bad_row_line i) status.NotComplete x not_incomplete
  done_with (judged p ps file shut c of (NotReduced i) found x) = refused (not_reduced_line i) status.NotComplete x not_incomplete
  done_with (judged p ps file shut c of (Missing n rest) found x) = refused (missing_line n (residues_text c.list rest)) status.NotComplete x not_incomplete

module _ (bytes : List ℕ) (p : Params) (pages : List Page) (columns : ColumnList) (file : IsTableFile bytes p pages) (of : IsTableOf p columns)
    (found : IsFound p columns pages Whole) where
  whole_file : EndsDone pages → IsWholeFile bytes
  whole_file closed = record {
    pages = pages;
    reads = file.reads;
    params = p;
    header = file.header;
    fit = fits_behind p (relation_count p.weight p.depth) [] pages (λ i below page at. file.fit i below page at);
    rows = closed.0;
    front = closed.1;
    closed = closed.2;
    complete = record { columns = columns; are_columns = of; lead = final_lead pages; complete = found };
  }

  small : p.modulus < 2 ^ 64
  small =
      let reads = file.reads in
      let sealed = reads.sealed in
      let fits : IsParams p = header_params pages p sealed.each file.header in
      let to = fits.modulus_to in
      omega arith

  reduced : IsReducedRows p.modulus columns (values_of p.modulus columns) (count_of columns) (length (finals_of pages)) (final_lead pages) (final_row pages)
  reduced = complete_is_reduced_rows p.modulus columns of.table (length (finals_of pages)) (final_lead pages) (final_row pages) (final_combination pages) found

  module _ (reply : List ℕ → List ℕ) where
    told : AreReplies p.modulus columns (length (finals_of pages)) (final_lead pages) (final_row pages) reply → TellsClasses p.modulus p.weight p.depth reply
    told each =
        let tells : TellsClasses p.modulus columns.weight columns.depth reply =
        classes_told p.modulus columns of.table small (length (finals_of pages)) (final_lead pages) (final_row pages) reduced reply each in
        subst (λ d. TellsClasses p.modulus p.weight d reply) of.depth (subst (λ w. TellsClasses p.modulus w columns.depth reply) of.weight tells)

    told_by_fractions : AreFractionReplies p.modulus columns (length (finals_of pages)) (final_lead pages) (final_row pages) reply
        → TellsByFractions p.modulus p.weight p.depth reply
    told_by_fractions each =
        let tells : TellsByFractions p.modulus columns.weight columns.depth reply =
        fraction_classes_told p.modulus columns of.table small (length (finals_of pages)) (final_lead pages) (final_row pages) reduced reply each in
        subst (λ d. TellsByFractions p.modulus p.weight d reply) of.depth (subst (λ w. TellsByFractions p.modulus w columns.depth reply) of.weight tells)

module _ (bytes : List ℕ) (left taken taken_new : Option (List ℕ)) (input : List ℕ) (tells : Tells left input) where
  -- what was written is what the work writes
  abbrev Wrote : Work → Type 0
  Wrote work = taken_new ≡ after_told taken (output_of work input)

  by_replies : (work : Work) → IsDoneWith bytes (λ params. RepliesBy params.modulus) work → Wrote work → FileTells bytes left taken taken_new
  unfolding whole_file
  by_replies work d wrote =
      let by = d.by_rows in
      record {
        file = whole_file bytes d.params d.pages d.columns d.file d.are_columns d.found d.closed;
        replies = record {
          input = input;
          told = tells;
          reply = by.reply;
          wrote = wrote ∙ ap (λ v. after_told taken (output_of v input)) by.is;
          tells = told bytes d.params d.pages d.columns d.file d.are_columns d.found by.reply by.replies;
        };
      }

  by_fractions : (work : Work) → IsDoneWith bytes (λ params. FractionsBy params.modulus) work → Wrote work → FileTellsByFractions bytes left taken taken_new
  unfolding whole_file
  by_fractions work d wrote =
      let by = d.by_rows in
      record {
        file = whole_file bytes d.params d.pages d.columns d.file d.are_columns d.found d.closed;
        replies = record {
          input = input;
          told = tells;
          reply = by.reply;
          wrote = wrote ∙ ap (λ v. after_told taken (output_of v input)) by.is;
          tells = told_by_fractions bytes d.params d.pages d.columns d.file d.are_columns d.found by.reply by.replies;
        };
      }

pub check_tells : (bytes : List ℕ) (left taken taken_new : Option (List ℕ)) → Outcome (Ok Check) (Some bytes) left taken taken_new status.Done
    → IsWholeFile bytes
check_tells bytes left taken taken_new o = elim (o.whole (λ names. refl, λ pages. absurd cc)) [
  | inl b ↦ absurd (not_broken_off b)
  | inr (work, is, wrote, end) ↦
      let d : IsDoneWith bytes CompletesBy work = done_with bytes CompletesBy work o.input end is in
      whole_file bytes d.params d.pages d.columns d.file d.are_columns d.found d.closed
]

pub rewrite_tells : (bytes : List ℕ) (left taken taken_new : Option (List ℕ)) → Outcome (Ok Rewrite) (Some bytes) left taken taken_new status.Done
    → FileTells bytes left taken taken_new
rewrite_tells bytes left taken taken_new o = elim (o.whole (λ names. refl, λ pages. absurd cc)) [
  | inl b ↦ absurd (not_broken_off b)
  | inr (work, is, wrote, end) ↦
      by_replies bytes left taken taken_new o.input o.told work (done_with bytes (λ params. RepliesBy params.modulus) work o.input end is) wrote
]

pub rational_tells : (bytes : List ℕ) (left taken taken_new : Option (List ℕ)) → Outcome (Ok Rational) (Some bytes) left taken taken_new status.Done
    → FileTellsByFractions bytes left taken taken_new
rational_tells bytes left taken taken_new o = elim (o.whole (λ names. refl, λ pages. absurd cc)) [
  | inl b ↦ absurd (not_broken_off b)
  | inr (work, is, wrote, end) ↦
      by_fractions bytes left taken taken_new o.input o.told work (done_with bytes (λ params. FractionsBy params.modulus) work o.input end is) wrote
]
