-- What any run of a merge has of the whole one.
use Rattle.std.specs.Prelude.{◌≡◌, ◌⊎◌, ℕ, List, length, Option}
use Rattle.outside_io.specs.Traces.{Trace}
use Rattle.outside_io.specs.Told.{after_told}
use Rattle.column_order.specs.Columns.{ColumnList}
use Rattle.file_model.specs.TableOf.{IsTableOf}
use Rattle.merge_program.specs.declared.status.MergeStatus.{MergeStatus}
use Rattle.merge_program.specs.declared.status.MergeStatus.TheVariants as status
use Rattle.merge_program.specs.declared.words.TableWords.{TableWords}
use Rattle.merge_program.specs.ShareRuns.{Ends}
use Rattle.table_model.specs.ListedSpan.{values_of, count_of}
use Rattle.table_model.specs.ReducedRows.{IsReducedRows}
use Rattle.merge_runs.specs.MergeWords.{Asked}
use Rattle.merge_runs.specs.Disks.{AreTold}
use Rattle.echelon.specs.Lists.{row_at, lead_at}
use Rattle.merge_runs.specs.Lines.{merged_lines}
use Rattle.merge_runs.specs.Runs.{Run, AreMerged, IsMergeRun}

-- before anything is written memory was wanting, or a call of a disk failed; or a whole run over the files is written, all of it, or a first part
-- where a write failed
pub data Goes (asked : Asked) (files : List (List ℕ)) (taken taken_new : Option (List ℕ)) (faults faults_new : ℕ) (result : MergeStatus) : Type 0 where
  broken_off : (result ≡ status.Memory) ⊎ (result ≡ status.DiskFault) → taken_new ≡ taken → Goes asked files taken taken_new faults faults_new result
  ended : (run : Run) → IsMergeRun asked files run → Ends run.text run.status taken taken_new faults faults_new result
      → Goes asked files taken taken_new faults faults_new result

-- so a run goes over files that are as the disks tell, where they tell
pub record IsOutcome (asked : Asked) (told : List (Option Trace)) (taken taken_new : Option (List ℕ)) (faults faults_new : ℕ) (result : MergeStatus) : Type 0
  where
    pub files : List (List ℕ)
    pub are_told : AreTold told files
    pub goes : Goes asked files taken taken_new faults faults_new result

-- the merged rows are written, and nothing else: the one reduced list of the span of the listed relations of the parameters
pub record WritesMerged (merge : TableWords) (taken taken_new : Option (List ℕ)) : Type 0 where
  pub columns : ColumnList
  pub are_columns : IsTableOf merge.params columns
  pub rows : List (List (ℕ × ℕ))
  pub combinations : List (List (ℕ × ℕ))
  pub are_merged : AreMerged merge.params.modulus columns rows combinations
  pub reduced : IsReducedRows merge.params.modulus columns (values_of merge.params.modulus columns) (count_of columns) (length rows) (lead_at rows)
      (row_at (λ v. v) rows)
  pub wrote : taken_new ≡ after_told taken (merged_lines merge.params.modulus columns.list rows)
