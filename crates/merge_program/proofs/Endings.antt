-- How runs end, by what was written and by what was asked for.
use Rattle.std.proofs.Common.{◌≡◌, ◌⊎◌, ℕ, List, Option, refl, sym, subst, inl, inr}
use Rattle.std.specs.Prelude.{Result, Ok, Err, OnOk, OnErr}
use Rattle.outside_io.specs.Causes.{Rose, HasCause}
use Rattle.outside_io.specs.Told.{after_told, AppendsFront}
use Rattle.zeta_model.proofs.WordLemmas.{admissible-has_index}
use Rattle.page_codec.specs.declared.params.Params.{Params}
use Rattle.page_codec.specs.Bounds.{IsParams}
use Rattle.table_model.proofs.FirstFaults.{not_invertible_word}
use Rattle.file_model.proofs.ParamColumns.{some_columns}
use Rattle.share_model.specs.declared.share.ShareId.{ShareId}
use Rattle.share_model.specs.declared.fault.ShareFault.{ShareFault}
use Rattle.share_model.specs.declared.fault.ShareFault.TheVariants.{NoInverseWord, NoInverseRelation, BadRow, NotReduced, Missing, Memory}
use Rattle.share_build.specs.Refusals.{GoesThrough, IsBuildRefusal}
use Rattle.merge_program.specs.declared.status.MergeStatus.{MergeStatus}
use Rattle.merge_program.specs.declared.status.MergeStatus.TheVariants as status
use Rattle.merge_program.specs.declared.words.ShareWords.{ShareWords}
use Rattle.merge_program.specs.declared.words.MergeWordsFault.{MergeWordsFault}
use Rattle.merge_program.specs.declared.words.MergeWordsFault.TheVariants.{Usage, Param, Shares, Share}
use Rattle.merge_program.specs.ShareRuns.{FailsTest, IsRefused, IsShareRun, Ends, IsOutcome, refusal_line, refusal_status}
use Rattle.merge_program.specs.ShareRuns.IsRefusalLine.{at_word, at_relation}
use Rattle.merge_program.specs.ShareRuns.Ends.{whole as all_written, cut_off as some_written}
use Rattle.merge_program.specs.ShareRuns.IsOutcome.{whole, cut_off, no_memory}
use Rattle.merge_program.specs.Inner.{end_after, HasText, HasRun}
use Rattle.merge_program.specs.Inner.HasRun.{ended, no_memory as starved}

-- a run ends after its last write
pub ends_after : {E : Type 0} (bytes : List ℕ) (end : MergeStatus) (taken taken_new : Option (List ℕ)) (faults faults_new : ℕ) (written : Result (Unit {0}) E)
    → OnOk written (taken_new ≡ after_told taken bytes) → OnErr written (AppendsFront taken taken_new bytes) → HasCause faults faults_new written
    → Ends bytes end taken taken_new faults faults_new (end_after written end)
ends_after bytes end taken taken_new faults faults_new (Ok done) ok err cause = all_written ok cause.later refl
ends_after bytes end taken taken_new faults faults_new (Err fault) ok err cause = some_written err cause.later cause.failed refl

-- a refusal of making a share can be told
pub fault_has_text : (params : Params) (id : ShareId) → IsParams params → (fault : ShareFault) → IsBuildRefusal params id fault → HasText fault
fault_has_text params id fits (NoInverseWord value word) h =
    let columns = some_columns params fits in
    let refused = h columns.0 columns.1 in
    admissible-has_index word refused.reached.word.admissible
fault_has_text params id fits (NoInverseRelation value n) h = tt
fault_has_text params id fits (BadRow i) h = h
fault_has_text params id fits (NotReduced i) h = h
fault_has_text params id fits (Missing n rest) h = h
fault_has_text params id fits (Memory fault) h = tt

-- no refusal stands where the table converts and the work is not broken
pub not_refused : (words : ShareWords) → IsParams words.params → GoesThrough words.params words.id → ¬ (IsRefused words)
not_refused words fits through (line, at_word value word h is) =
    let columns = some_columns words.params fits in
    absurd (not_invertible_word words.params.modulus columns.0 word value (h columns.0 columns.1) (through columns.0 columns.1).0)
not_refused words fits through (line, at_relation value n h is) =
    let columns = some_columns words.params fits in
    let breaks = (h columns.0 columns.1).1 in
    absurd ((through columns.0 columns.1).1 breaks.place breaks.inside value breaks.breaks.0)

module _ (words : ShareWords) (taken taken_new : Option (List ℕ)) (faults faults_new : ℕ) (result : MergeStatus) where
  pub run_outcome : HasRun words taken taken_new faults faults_new result → IsOutcome (Ok words) taken taken_new result
  run_outcome (ended bytes end is (all_written all later e)) = whole bytes (subst (IsShareRun (Ok words) bytes) (sym e) is) all
  run_outcome (ended bytes end is (some_written front later rose e)) = cut_off bytes end is front e
  run_outcome (starved e same later) = no_memory e same

  -- the statuses of a run of words that ask for a share
  pub run_ends : HasRun words taken taken_new faults faults_new result
      → (result ≡ status.Done) ⊎ (result ≡ status.Memory) ⊎ (result ≡ status.NoInverse) ⊎ (result ≡ status.WriteFault)
  run_ends (ended bytes end (inl is) (all_written all later e)) = let done : end ≡ status.Done = is.1 in inl cc
  run_ends (ended bytes end (inr is) (all_written all later e)) = let told : end ≡ status.NoInverse = is.1 in inr (inr (inl cc))
  run_ends (ended bytes end is (some_written front later rose e)) = inr (inr (inr e))
  run_ends (starved e same later) = inr (inl e)

  pub run_not_params : HasRun words taken taken_new faults faults_new result → ¬ (result ≡ status.Params)
  run_not_params h e = elim (run_ends h) [ inl d ↦ absurd cc | inr (inl d) ↦ absurd cc | inr (inr (inl d)) ↦ absurd cc | inr (inr (inr d)) ↦ absurd cc ]

  -- a residue without inverse is told where a refusal stands
  pub run_refused : HasRun words taken taken_new faults faults_new result → result ≡ status.NoInverse → IsRefused words
  run_refused (ended bytes end (inl is) (all_written all later e)) n = let done : end ≡ status.Done = is.1 in absurd cc
  run_refused (ended bytes end (inr is) (all_written all later e)) n = (bytes, is.0)
  run_refused (ended bytes end is (some_written front later rose e)) n = absurd cc
  run_refused (starved e same later) n = absurd cc

  -- no share is written where one stands
  pub run_not_done : IsParams words.params → HasRun words taken taken_new faults faults_new result → IsRefused words
      → (result ≡ status.NoInverse) ⊎ (result ≡ status.Memory) ⊎ (result ≡ status.WriteFault)
  run_not_done fits (ended bytes end (inl is) (all_written all later e)) refused = let share = is.0 in absurd (not_refused words fits share.through refused)
  run_not_done fits (ended bytes end (inr is) (all_written all later e)) refused = let told : end ≡ status.NoInverse = is.1 in inl cc
  run_not_done fits (ended bytes end is (some_written front later rose e)) refused = inr (inr e)
  run_not_done fits (starved e same later) refused = inr (inl e)

  -- the share is written where none stands and no write failed
  pub run_through : HasRun words taken taken_new faults faults_new result → ¬ (IsRefused words) → ¬ (Rose faults faults_new)
      → (result ≡ status.Done) ⊎ (result ≡ status.Memory)
  run_through (ended bytes end (inl is) (all_written all later e)) free quiet = let done : end ≡ status.Done = is.1 in inl cc
  run_through (ended bytes end (inr is) (all_written all later e)) free quiet = absurd (free (bytes, is.0))
  run_through (ended bytes end is (some_written front later rose e)) free quiet = absurd (quiet rose)
  run_through (starved e same later) free quiet = inr e

module _ (fault : MergeWordsFault) (taken taken_new : Option (List ℕ)) (faults faults_new : ℕ) (result : MergeStatus) where
  pub refusal_outcome : Ends (refusal_line fault) (refusal_status fault) taken taken_new faults faults_new result
      → IsOutcome (Err fault) taken taken_new result
  refusal_outcome (all_written all later e) = whole (refusal_line fault) (refl, e) all
  refusal_outcome (some_written front later rose e) = cut_off (refusal_line fault) (refusal_status fault) (refl, refl) front e

  pub refusal_of : (other : MergeWordsFault) → fault ≡ other → Ends (refusal_line fault) (refusal_status fault) taken taken_new faults faults_new result
      → Ends (refusal_line other) (refusal_status other) taken taken_new faults faults_new result
  refusal_of other same h = subst (λ f. Ends (refusal_line f) (refusal_status f) taken taken_new faults faults_new result) same h

  pub refusal_ends : Ends (refusal_line fault) (refusal_status fault) taken taken_new faults faults_new result
      → (result ≡ refusal_status fault) ⊎ (result ≡ status.WriteFault)
  refusal_ends (all_written all later e) = inl e
  refusal_ends (some_written front later rose e) = inr e

pub refusal_fails : (fault : MergeWordsFault) (result : MergeStatus) → (result ≡ refusal_status fault) ⊎ (result ≡ status.WriteFault) → result ≡ status.Params
    → FailsTest (Err fault)
refusal_fails Usage result (inl e) p = absurd cc
refusal_fails Usage result (inr e) p = absurd cc
refusal_fails (Param f) result h p = tt
refusal_fails (Shares n) result h p = tt
refusal_fails (Share n) result h p = tt

pub refusal_params : (fault : MergeWordsFault) (result : MergeStatus) → (result ≡ refusal_status fault) ⊎ (result ≡ status.WriteFault) → FailsTest (Err fault)
    → (result ≡ status.Params) ⊎ (result ≡ status.WriteFault)
refusal_params Usage result h f = absurd f
refusal_params (Param g) result h f = h
refusal_params (Shares n) result h f = h
refusal_params (Share n) result h f = h

pub refusal_not_inverse : (fault : MergeWordsFault) (result : MergeStatus) → (result ≡ refusal_status fault) ⊎ (result ≡ status.WriteFault)
    → ¬ (result ≡ status.NoInverse)
refusal_not_inverse Usage result (inl e) p = absurd cc
refusal_not_inverse (Param g) result (inl e) p = absurd cc
refusal_not_inverse (Shares n) result (inl e) p = absurd cc
refusal_not_inverse (Share n) result (inl e) p = absurd cc
refusal_not_inverse fault result (inr e) p = absurd cc
