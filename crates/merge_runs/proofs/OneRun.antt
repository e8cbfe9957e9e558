-- A merge has one whole run over the bytes of its files.
use Rattle.std.specs.Prelude.{◌≡◌, ℕ, List, [], length, Ok, Err}
use Rattle.std.proofs.Common.{sym, ap, subst, ◌∙◌, inl, inr}
use Rattle.std.proofs.lemmas.Bool.{cases_order}
use Rattle.std.proofs.lemmas.Option.{slice_get_within}
use Rattle.column_order.specs.Columns.{ColumnList}
use Rattle.table_model.specs.Conversion.{Converts}
use Rattle.table_model.proofs.FirstFaults.{not_invertible_unique, not_invertible_word}
use Rattle.file_model.specs.TableOf.{IsTableOf}
use Rattle.file_model.proofs.ParamColumns.{same_columns}
use Rattle.share_model.specs.declared.share.Share.{Share}
use Rattle.share_model.specs.Checked.{Checked}
use Rattle.share_merge.specs.Turns.{turns_of, IsLeastMissing, MergesWhole, BreaksAtRow}
use Rattle.share_merge.proofs.Exclusions.{one_break}
use Rattle.whole_runs.specs.Texts.{word_line}
use Rattle.merge_program.specs.declared.status.MergeStatus.TheVariants as status
use Rattle.merge_program.specs.declared.words.TableWords.{TableWords}
use Rattle.merge_program.specs.declared.words.MergeWordsFault.TheVariants.{Usage, Param, Shares, Share as ShareIndex}
use Rattle.merge_runs.specs.MergeWords.{Asked}
use Rattle.merge_runs.specs.Lines.{missing_line, turn_line, merged_lines}
use Rattle.merge_runs.specs.Taking.{TakesAll}
use Rattle.merge_runs.specs.Plain.{plain_shares}
use Rattle.merge_runs.specs.Runs.{Run, ends, file_line, IsFinish, IsOver, IsOverTable, IsMergeRun}
use Rattle.merge_runs.specs.Runs.IsFinish.{missing, broken, merged}
use Rattle.merge_runs.specs.Runs.IsOver.{no_inverse, refused, finished}
use Rattle.merge_runs.proofs.OneTaking.{takes_all_once, not_all, first_once}
use Rattle.merge_runs.proofs.OneRows.{rows_once}

-- the least share that is missing is one
one_missing : {R E : Type 0} (shares : ℕ) (list : List (Checked R E)) (i k : ℕ) → IsLeastMissing shares list i → IsLeastMissing shares list k → i ≡ k
one_missing shares list i k x y = elim (cases_order i k) [
  | inl same ↦ same
  | inr o ↦ elim o [
    | inl less ↦ absurd (x.missing (y.earlier i less))
    | inr more ↦ absurd (y.missing (x.earlier k more))
  ]
]

module _ (merge : TableWords) (columns : ColumnList) (of : IsTableOf merge.params columns) where
  whole_not_broken : (counted : List Share) (residue share row : ℕ)
      → BreaksAtRow merge.params.modulus (λ v. v) columns (plain_shares counted) residue share row
      → ¬ (MergesWhole merge.params.modulus (λ v. v) columns (plain_shares counted))
  whole_not_broken counted residue share row is whole =
      let breaks = is.breaks in
      whole is.place (slice_get_within (turns_of (plain_shares counted)) is.place is.turn is.is_turn) residue breaks.0

  one_finish : Converts merge.params.modulus columns → (counted : List Share) (v w : Run) → IsFinish merge columns counted v
      → IsFinish merge columns counted w → v ≡ w
  one_finish converts counted v w (missing i lacks x) (missing k other y) =
      x ∙ ap (λ n. ends (missing_line n) status.NotComplete) (one_missing merge.shares (plain_shares counted) i k lacks other) ∙ sym y
  one_finish converts counted v w (missing i lacks x) (broken all r s t breaks y) = absurd (lacks.missing (all i lacks.inside))
  one_finish converts counted v w (missing i lacks x) (merged all whole rows c are y) = absurd (lacks.missing (all i lacks.inside))
  one_finish converts counted v w (broken all r s t breaks x) (missing i lacks y) = absurd (lacks.missing (all i lacks.inside))
  one_finish converts counted v w (broken all r s t breaks x) (broken others a b c also y) =
      let same : (r ≡ a) × (s ≡ b) × (t ≡ c) =
      one_break merge.params.modulus (λ v. v) columns of.table converts (plain_shares counted) r s t a b c breaks also in
      x ∙ (λ i. ends (turn_line (same.0 i) (same.1 i) (same.2 i)) status.NoInverse) ∙ sym y
  one_finish converts counted v w (broken all r s t breaks x) (merged others whole rows c are y) = absurd (whole_not_broken counted r s t breaks whole)
  one_finish converts counted v w (merged all whole rows c are x) (missing i lacks y) = absurd (lacks.missing (all i lacks.inside))
  one_finish converts counted v w (merged all whole rows c are x) (broken others r s t breaks y) = absurd (whole_not_broken counted r s t breaks whole)
  one_finish converts counted v w (merged all whole rows c are x) (merged others also lists d too y) =
      x
      ∙ ap (λ rs. ends (merged_lines merge.params.modulus columns.list rs) status.Done)
      (rows_once merge.params.modulus columns of.table rows c lists d are too)
      ∙ sym y

  one_over : (files : List (List ℕ)) (v w : Run) → IsOver merge columns files v → IsOver merge columns files w → v ≡ w
  one_over files v w (no_inverse u r f x) (no_inverse t s g y) =
      let same : (u ≡ t) × (r ≡ s) = not_invertible_unique merge.params.modulus columns u t r s f g in
      x ∙ (λ i. ends (word_line (same.1 i) (same.0 i)) status.NoInverse) ∙ sym y
  one_over files v w (no_inverse u r f x) (refused c front file rest is counted takes why wrong y) =
      absurd (not_invertible_word merge.params.modulus columns u r f c)
  one_over files v w (no_inverse u r f x) (finished c counted takes finish) = absurd (not_invertible_word merge.params.modulus columns u r f c)
  one_over files v w (refused c front file rest is counted takes why wrong x) (no_inverse t s g y) =
      absurd (not_invertible_word merge.params.modulus columns t s g c)
  one_over files v w (refused c front file rest is counted takes why wrong x) (refused d others other behind also fresh taken cause bad y) =
      let same : (length front ≡ length others) × (why ≡ cause) =
      first_once merge columns of c [] front others file other rest behind counted fresh why cause (sym is ∙ also) takes wrong taken bad in
      x ∙ (λ i. ends (file_line columns.list (same.0 i) (same.1 i)) status.NotAShare) ∙ sym y
  one_over files v w (refused c front file rest is counted takes why wrong x) (finished d all taken finish) =
      absurd (not_all merge columns of c [] front file rest counted all why takes wrong (subst (λ fs. TakesAll merge [] fs all) is taken))
  one_over files v w (finished c counted takes finish) (no_inverse t s g y) = absurd (not_invertible_word merge.params.modulus columns t s g c)
  one_over files v w (finished c all taken finish) (refused d front file rest is counted takes why wrong x) =
      absurd (not_all merge columns of c [] front file rest counted all why takes wrong (subst (λ fs. TakesAll merge [] fs all) is taken))
  one_over files v w (finished c counted takes finish) (finished d others taken ending) =
      let same : others ≡ counted = takes_all_once merge columns of c [] files others counted taken takes in
      one_finish c counted v w finish (subst (λ list. IsFinish merge columns list w) same ending)

-- over the columns of the parameters
one_over_table : (merge : TableWords) (files : List (List ℕ)) (v w : Run) → IsOverTable merge files v → IsOverTable merge files w → v ≡ w
one_over_table merge files v w x y =
    let same : y.columns ≡ x.columns = same_columns merge.params y.columns x.columns y.are_columns x.are_columns in
    one_over merge x.columns x.are_columns files v w x.over (subst (λ c. IsOver merge c files w) same y.over)

pub one_run : (asked : Asked) (files : List (List ℕ)) (v w : Run) → IsMergeRun asked files v → IsMergeRun asked files w → v ≡ w
one_run (Err Usage) files v w x y = absurd x
one_run (Err (Param fault)) files v w x y = x ∙ sym y
one_run (Err (Shares n)) files v w x y = x ∙ sym y
one_run (Err (ShareIndex i)) files v w x y = absurd x
one_run (Ok merge) files v w x y = one_over_table merge files v w x y
