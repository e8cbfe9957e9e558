-- What a whole run for a share writes and how it ends, and what any run has of it.
use Rattle.std.specs.Prelude.{◌≡◌, ◌⊎◌, ℕ, ◌≤◌, List, [], ◌∷◌, ◌++◌, Option, Ok, Err, codes, decimal}
use Rattle.zeta_model.specs.declared.Letter.{Letter}
use Rattle.outside_io.specs.Causes.{Rose}
use Rattle.outside_io.specs.Told.{after_told, AppendsFront}
use Rattle.share_model.specs.declared.share.Share.{Share}
use Rattle.share_model.specs.declared.fault.ShareFault.TheVariants.{NoInverseWord, NoInverseRelation}
use Rattle.share_model.specs.Shares.{IsShare, IsResult}
use Rattle.share_file.specs.Spelling.{share_spelling}
use Rattle.share_build.specs.Refusals.{GoesThrough, IsBuildRefusal}
use Rattle.whole_runs.specs.Texts.{param_line, word_line, relation_line}
use Rattle.merge_program.specs.declared.status.MergeStatus.{MergeStatus}
use Rattle.merge_program.specs.declared.status.MergeStatus.TheVariants as status
use Rattle.merge_program.specs.declared.words.ShareWords.{ShareWords}
use Rattle.merge_program.specs.declared.words.MergeWordsFault.{MergeWordsFault}
use Rattle.merge_program.specs.declared.words.MergeWordsFault.TheVariants.{Usage, Param, Shares, Share as ShareNumber}
use Rattle.merge_program.specs.MergeWords.{Asked}

abbrev pub usage_line : List ℕ
usage_line = codes "usage: share W D M ORDER I S; merge W D M ORDER S FILE .." ++ 10 ∷ []

-- the line that refuses words
abbrev pub refusal_line : MergeWordsFault → List ℕ
refusal_line Usage = usage_line
refusal_line (Param fault) = param_line fault
refusal_line (Shares n) = codes "bad parameter: shares " ++ (decimal n ++ 10 ∷ [])
refusal_line (ShareNumber n) = codes "bad parameter: share " ++ (decimal n ++ 10 ∷ [])

-- and how a run of them ends
abbrev pub refusal_status : MergeWordsFault → MergeStatus
refusal_status Usage = status.Usage
refusal_status (Param fault) = status.Params
refusal_status (Shares n) = status.Params
refusal_status (ShareNumber n) = status.Params

-- a parameter test fails
abbrev pub FailsTest : Asked → Type 0
FailsTest (Ok words) = ⊥
FailsTest (Err Usage) = ⊥
FailsTest (Err (Param fault)) = Unit {0}
FailsTest (Err (Shares n)) = Unit {0}
FailsTest (Err (ShareNumber n)) = Unit {0}

-- the bytes are the spelling of a share of these words whose rows are a result of it; the table converts and the work on it is not broken
pub record IsShareBytes (words : ShareWords) (bytes : List ℕ) : Type 0 where
  pub share : Share
  pub params : share.params ≡ words.params
  pub id : share.id ≡ words.id
  pub is_share : IsShare share
  pub is_result : IsResult share
  pub through : GoesThrough words.params words.id
  pub spelled : bytes ≡ share_spelling share

-- the line of why the share of these words is not made: the first word at which the table does not convert, or the first relation of the share
-- at which the work is broken
pub data IsRefusalLine (words : ShareWords) (line : List ℕ) : Type 0 where
  at_word : (value : ℕ) (word : List Letter) → IsBuildRefusal words.params words.id (NoInverseWord value word) → line ≡ word_line value word
      → IsRefusalLine words line
  at_relation : (value n : ℕ) → IsBuildRefusal words.params words.id (NoInverseRelation value n) → line ≡ relation_line value n
      → IsRefusalLine words line

-- some refusal stands against the share
abbrev pub IsRefused : ShareWords → Type 0
IsRefused words = (line : List ℕ) × IsRefusalLine words line

-- what a whole run of what is asked for writes, and how it ends
abbrev pub IsShareRun : Asked → List ℕ → MergeStatus → Type 0
IsShareRun (Ok words) bytes end = (IsShareBytes words bytes × (end ≡ status.Done)) ⊎ (IsRefusalLine words bytes × (end ≡ status.NoInverse))
IsShareRun (Err fault) bytes end = (bytes ≡ refusal_line fault) × (end ≡ refusal_status fault)

-- all the bytes are written and the run ends so, or a write failed behind a first part of them; the sink's count of faults does not fall, and
-- rose where a write failed
pub data Ends (bytes : List ℕ) (end : MergeStatus) (taken taken_new : Option (List ℕ)) (faults faults_new : ℕ) (result : MergeStatus) : Type 0 where
  whole : taken_new ≡ after_told taken bytes → faults ≤ faults_new → result ≡ end → Ends bytes end taken taken_new faults faults_new result
  cut_off : AppendsFront taken taken_new bytes → faults ≤ faults_new → Rose faults faults_new → result ≡ status.WriteFault
      → Ends bytes end taken taken_new faults faults_new result

-- what a run has of a whole one: all of it, or a first part of what it writes where a write failed, or nothing is written where memory was wanting
pub data IsOutcome (asked : Asked) (taken taken_new : Option (List ℕ)) (result : MergeStatus) : Type 0 where
  whole : (bytes : List ℕ) → IsShareRun asked bytes result → taken_new ≡ after_told taken bytes → IsOutcome asked taken taken_new result
  cut_off : (bytes : List ℕ) (end : MergeStatus) → IsShareRun asked bytes end → AppendsFront taken taken_new bytes → result ≡ status.WriteFault
      → IsOutcome asked taken taken_new result
  no_memory : result ≡ status.Memory → taken_new ≡ taken → IsOutcome asked taken taken_new result

-- the share of these words is written, and nothing else
pub record WritesShare (words : ShareWords) (taken taken_new : Option (List ℕ)) : Type 0 where
  pub bytes : List ℕ
  pub are : IsShareBytes words bytes
  pub wrote : taken_new ≡ after_told taken bytes
