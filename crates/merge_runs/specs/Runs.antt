-- Whole runs of a merge: what is written in all for the words and the bytes of the files, and how the run ends.
use Rattle.std.specs.Prelude.{◌≡◌, ℕ, ◌<◌, List, [], ◌∷◌, ◌++◌, length, get_or, Ok, Err}
use Rattle.zeta_model.specs.declared.Letter.{Letter}
use Rattle.sparse_rows.specs.Entries.{IsBelow}
use Rattle.column_order.specs.Columns.{ColumnList}
use Rattle.echelon.specs.Lists.{row_at, lead_at}
use Rattle.page_rows.specs.Written.{AreResidues}
use Rattle.poly_print.specs.Polynomials.{residues_text}
use Rattle.table_model.specs.Conversion.{Converts}
use Rattle.table_model.specs.Complete.{IsComplete}
use Rattle.table_model.specs.Faults.{IsNotInvertible}
use Rattle.table_model.specs.Faults.Verdict.{Whole, NoInverse, BadRow, NotReduced, Missing}
use Rattle.file_model.specs.TableOf.{IsTableOf}
use Rattle.share_model.specs.declared.share.Share.{Share}
use Rattle.share_merge.specs.Turns.{HasAll, IsLeastMissing, MergesWhole, BreaksAtRow}
use Rattle.merge_program.specs.declared.status.MergeStatus.{MergeStatus}
use Rattle.merge_program.specs.declared.status.MergeStatus.TheVariants as status
use Rattle.merge_program.specs.ShareRuns.{refusal_line, refusal_status}
use Rattle.whole_runs.specs.Texts.{word_line}
use Rattle.merge_program.specs.declared.words.TableWords.{TableWords}
use Rattle.merge_program.specs.declared.words.MergeWordsFault.TheVariants.{Usage, Param, Shares, Share as ShareIndex}
use Rattle.merge_runs.specs.MergeWords.{Asked}
use Rattle.merge_runs.specs.Taking.{Why, TakesAll, IsRefused}
use Rattle.merge_runs.specs.Taking.Why.{Unreadable, Other, Found}
use Rattle.merge_runs.specs.Plain.{plain_shares}
use Rattle.merge_runs.specs.Lines.{unreadable_line, other_line, bad_row_line, not_reduced_line, leaves_line, missing_line, turn_line, merged_lines}

-- all that is written, and how the run ends
pub record Run : Type 0 where
  pub text : List ℕ
  pub status : MergeStatus

abbrev pub ends : List ℕ → MergeStatus → Run
ends text result = record { text = text; status = result }

-- the line of a file that is refused
abbrev pub file_line : List (List (List Letter)) → ℕ → Why → List ℕ
file_line columns file Unreadable = unreadable_line file
file_line columns file Other = other_line file
file_line columns file (Found Whole) = []
file_line columns file (Found (NoInverse u residue)) = []
file_line columns file (Found (BadRow i)) = bad_row_line file i
file_line columns file (Found (NotReduced i)) = not_reduced_line file i
file_line columns file (Found (Missing n rest)) = leaves_line file n (residues_text columns rest)

-- rows as files have them, which with their combinations are complete
pub record AreMerged (m : ℕ) (columns : ColumnList) (rows combinations : List (List (ℕ × ℕ))) : Type 0 where
  pub residues : (i : ℕ) → i < length rows → AreResidues (λ k. k) m (get_or rows i [])
  pub below : (i : ℕ) → i < length rows → IsBelow (λ k. k) (length columns.list) (get_or rows i [])
  pub complete : IsComplete m columns (length rows) (lead_at rows) (row_at (λ v. v) rows) (row_at (λ v. v) combinations)

-- what the counted shares give over the columns: the least share that is missing is told; else the row at which the work over the rows of the
-- shares, in turn, is broken; else the rows are written that are reduced and have the span of all listed relations
pub data IsFinish (merge : TableWords) (columns : ColumnList) (counted : List Share) (run : Run) : Type 0 where
  missing : (index : ℕ) → IsLeastMissing merge.shares (plain_shares counted) index → run ≡ ends (missing_line index) status.NotComplete
      → IsFinish merge columns counted run
  broken : HasAll merge.shares (plain_shares counted) → (residue share row : ℕ)
      → BreaksAtRow merge.params.modulus (λ v. v) columns (plain_shares counted) residue share row
      → run ≡ ends (turn_line residue share row) status.NoInverse → IsFinish merge columns counted run
  merged : HasAll merge.shares (plain_shares counted) → MergesWhole merge.params.modulus (λ v. v) columns (plain_shares counted)
      → (rows combinations : List (List (ℕ × ℕ))) → AreMerged merge.params.modulus columns rows combinations
      → run ≡ ends (merged_lines merge.params.modulus columns.list rows) status.Done → IsFinish merge columns counted run

-- the run over the columns of the parameters: the first word at which the table does not convert is told; else the first file that is not a
-- share of the merge; else what the shares in the files give
pub data IsOver (merge : TableWords) (columns : ColumnList) (files : List (List ℕ)) (run : Run) : Type 0 where
  no_inverse : (u : List Letter) (residue : ℕ) → IsNotInvertible merge.params.modulus columns u residue
      → run ≡ ends (word_line residue u) status.NoInverse → IsOver merge columns files run
  refused : Converts merge.params.modulus columns → (front : List (List ℕ)) (file : List ℕ) (rest : List (List ℕ)) → files ≡ front ++ file ∷ rest
      → (counted : List Share) → TakesAll merge [] front counted → (why : Why) → IsRefused merge counted file why
      → run ≡ ends (file_line columns.list (length front) why) status.NotAShare → IsOver merge columns files run
  finished : Converts merge.params.modulus columns → (counted : List Share) → TakesAll merge [] files counted → IsFinish merge columns counted run
      → IsOver merge columns files run

pub record IsOverTable (merge : TableWords) (files : List (List ℕ)) (run : Run) : Type 0 where
  pub columns : ColumnList
  pub are_columns : IsTableOf merge.params columns
  pub over : IsOver merge columns files run

-- the whole run of a merge that words ask for, or of their refusal; words that are not those of a merge have none
abbrev pub IsMergeRun : Asked → List (List ℕ) → Run → Type 0
IsMergeRun (Err Usage) files run = ⊥
IsMergeRun (Err (Param fault)) files run = run ≡ ends (refusal_line (Param fault)) (refusal_status (Param fault))
IsMergeRun (Err (Shares n)) files run = run ≡ ends (refusal_line (Shares n)) (refusal_status (Shares n))
IsMergeRun (Err (ShareIndex i)) files run = ⊥
IsMergeRun (Ok merge) files run = IsOverTable merge files run
