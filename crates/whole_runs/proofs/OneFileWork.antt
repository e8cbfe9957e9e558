-- What is done over the table in a file is one work.
use Rattle.std.specs.Prelude.{◌≡◌, ℕ, List, length}
use Rattle.std.proofs.Common.{sym, ◌∙◌, ap, subst}
use Rattle.column_order.specs.Columns.{ColumnList}
use Rattle.page_codec.specs.declared.params.Params.{Params}
use Rattle.page_codec.specs.declared.page.Page.{Page}
use Rattle.page_file.specs.Notes.{params_of}
use Rattle.table_model.specs.Conversion.{IsTable, Converts}
use Rattle.table_model.specs.ListedSpan.{values_of, count_of}
use Rattle.table_model.specs.ReducedRows.{IsReducedRows}
use Rattle.table_model.specs.Faults.{Verdict}
use Rattle.table_model.specs.Faults.Verdict.{Whole, NoInverse, BadRow, NotReduced, Missing}
use Rattle.table_model.proofs.Verdicts.{verdict_unique}
use Rattle.table_model.proofs.CompleteRows.{complete_is_reduced_rows}
use Rattle.file_model.specs.FinalRows.{finals_of, final_row, final_combination, EndsDone, final_lead, IsFound}
use Rattle.file_model.specs.TableOf.{IsTableOf}
use Rattle.file_model.proofs.ParamColumns.{same_columns}
use Rattle.whole_runs.specs.declared.status.Status.TheVariants as status
use Rattle.whole_runs.specs.FileTexts.{unfinished_line}
use Rattle.whole_runs.specs.FileWorks.{IsTableFile, IsAnswer, IsOverFile}
use Rattle.whole_runs.specs.FileWorks.IsOverFile.{no_table, unfinished, judged}
use Rattle.whole_runs.specs.Works.{Work, ByRows}
use Rattle.whole_runs.specs.Works.Work.{Writes}
use Rattle.whole_runs.proofs.OneShow.{one_refusal, not_refused, own_places, same_pages, same_params}

module _ (bytes : List ℕ) (done : Params → ByRows) (v w : Work) where
  -- what is done with complete rows is one work
  abbrev pub IsOnceByRows : Type 0
  IsOnceByRows = (params : Params) (columns : ColumnList) → IsTable params.modulus columns → Converts params.modulus columns
      → (count : ℕ) (lead : ℕ → ℕ) (rows : ℕ → ℕ → ℕ)
      → IsReducedRows params.modulus columns (values_of params.modulus columns) (count_of columns) count lead rows
      → done params columns count lead rows v → done params columns count lead rows w → v ≡ w

  abbrev Answered : Params → ColumnList → List Page → Verdict → Work → Type 0
  Answered params columns pages found work =
      IsAnswer (done params) columns (length (finals_of pages)) (final_lead pages) (final_row pages) found work

  one_answer : IsOnceByRows → (params : Params) (columns : ColumnList) (pages : List Page) → IsTable params.modulus columns → (found : Verdict)
      → IsFound params columns pages found → Answered params columns pages found v → Answered params columns pages found w → v ≡ w
  one_answer once params columns pages table Whole is x y =
      let reduced = complete_is_reduced_rows params.modulus columns table (length (finals_of pages)) (final_lead pages) (final_row pages)
      (final_combination pages) is in
      once params columns table is.converts (length (finals_of pages)) (final_lead pages) (final_row pages) reduced x y
  one_answer once params columns pages table (NoInverse u residue) is x y = x ∙ sym y
  one_answer once params columns pages table (BadRow i) is x y = x ∙ sym y
  one_answer once params columns pages table (NotReduced i) is x y = x ∙ sym y
  one_answer once params columns pages table (Missing n rest) is x y = x ∙ sym y

  one_judged : IsOnceByRows → (p q : Params) (ps qs : List Page) (c d : ColumnList) (f g : Verdict) → IsTableFile bytes p ps → IsTableFile bytes q qs
      → IsTableOf p c → IsTableOf q d → IsFound p c ps f → IsFound q d qs g → Answered p c ps f v → Answered q d qs g w → v ≡ w
  one_judged once p q ps qs c d f g file other of others found_f found_g x y =
      let pages : qs ≡ ps = same_pages bytes qs ps other.reads file.reads in
      let params : q ≡ p = same_params q p (sym other.header ∙ ap params_of pages ∙ file.header) in
      let columns : d ≡ c = same_columns p d c (subst (λ r. IsTableOf r d) params others) of in
      let found : IsFound p c ps g =
      subst (λ r. IsFound r c ps g) params (subst (λ e. IsFound q e ps g) columns (subst (λ rs. IsFound q d rs g) pages found_g)) in
      let answer : Answered p c ps g w =
      subst (λ r. Answered r c ps g w) params (subst (λ e. Answered q e ps g w) columns (subst (λ rs. Answered q d rs g w) pages y)) in
      let table = of.table in
      let same : g ≡ f = verdict_unique p.modulus c (length (finals_of ps)) (final_lead ps) (final_row ps) (final_combination ps) table g f found found_f in
      one_answer once p c ps table f found_f x (subst (λ h. Answered p c ps h w) same answer)

  pub one_over_file : IsOnceByRows → IsOverFile bytes done v → IsOverFile bytes done w → v ≡ w
  one_over_file once (no_table x) (no_table y) = one_refusal bytes v w x y
  one_over_file once (no_table x) (unfinished qs others fit unclosed y) = absurd (not_refused bytes v qs others fit x)
  one_over_file once (no_table x) (judged q qs other shut d others g found y) = absurd (not_refused bytes v qs other.reads (own_places bytes q qs other) x)
  one_over_file once (unfinished ps reads fit unclosed x) (no_table y) = absurd (not_refused bytes w ps reads fit y)
  one_over_file once (unfinished ps reads fit unclosed x) (unfinished qs others fits unclosed_too y) =
      x ∙ ap (λ rs. Writes (unfinished_line (length rs)) status.NotComplete) (same_pages bytes ps qs reads others) ∙ sym y
  one_over_file once (unfinished ps reads fit unclosed x) (judged q qs other shut d others g found y) =
      absurd (unclosed (subst EndsDone (same_pages bytes qs ps other.reads reads) shut))
  one_over_file once (judged p ps file shut c of f found x) (no_table y) = absurd (not_refused bytes w ps file.reads (own_places bytes p ps file) y)
  one_over_file once (judged p ps file shut c of f found x) (unfinished qs others fits unclosed y) =
      absurd (unclosed (subst EndsDone (same_pages bytes ps qs file.reads others) shut))
  one_over_file once (judged p ps file shut c of f found x) (judged q qs other closed d others g judgement y) =
      one_judged once p q ps qs c d f g file other of others found judgement x y
