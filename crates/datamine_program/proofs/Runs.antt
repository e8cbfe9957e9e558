-- What a run of a command has, by how it went.
use Rattle.std.proofs.Common.{◌≡◌, ◌⊎◌, inl, inr, ℕ, ◌+◌, true, false, List, [], Option, None, sym, subst, lit≤}
use Rattle.outside_io.proofs.Telling.{before-nothing}
use Rattle.line_loop.specs.Lines.{input_limit}
use Rattle.line_loop.specs.Talk.{Tells, TakesAtMost}
use Rattle.whole_runs.specs.declared.status.Status.{Status}
use Rattle.whole_runs.specs.declared.status.Status.TheVariants.{Done, Memory, Usage, Params, NoInverse, DiskFault, ReadFault, WriteFault}
use Rattle.whole_runs.specs.declared.status.Status.TheVariants.{NotATable, NotComplete, TooMuchInput}
use Rattle.whole_runs.specs.CommandLine.{Asked}
use Rattle.whole_runs.specs.Works.{Work, ReadsLines}
use Rattle.whole_runs.specs.Wanted.{IsWork}
use Rattle.whole_runs.specs.Works.Work.{Replies}
use Rattle.whole_runs.specs.Outcomes.{Has, Outcome, AnswersSeen, AsksForReplies, NamesFile}
use Rattle.whole_runs.proofs.OneCopy.{untold_work, lines_read}
use Rattle.whole_runs.proofs.Outcomes.{each_work, outcome_of, answers_of}
use Rattle.datamine_program.specs.Inner.{IsRun, EndsFile}

-- neither words nor parameters are refused, and no file is used
abbrev IsPlain : Status → Type 0
IsPlain Done = Unit {0}
IsPlain Memory = Unit {0}
IsPlain Usage = ⊥
IsPlain Params = ⊥
IsPlain NoInverse = Unit {0}
IsPlain DiskFault = ⊥
IsPlain ReadFault = Unit {0}
IsPlain WriteFault = Unit {0}
IsPlain NotATable = ⊥
IsPlain NotComplete = ⊥
IsPlain TooMuchInput = Unit {0}

-- neither words nor parameters are refused, and the source is not used
abbrev IsQuiet : Status → Type 0
IsQuiet Done = Unit {0}
IsQuiet Memory = Unit {0}
IsQuiet Usage = ⊥
IsQuiet Params = ⊥
IsQuiet NoInverse = Unit {0}
IsQuiet DiskFault = Unit {0}
IsQuiet ReadFault = ⊥
IsQuiet WriteFault = Unit {0}
IsQuiet NotATable = Unit {0}
IsQuiet NotComplete = Unit {0}
IsQuiet TooMuchInput = ⊥

-- how lines, a refusal, one line and the lines of a file end
abbrev pub EndsLines : Status → Type 0
EndsLines result = (result ≡ Done) ⊎ (result ≡ Memory) ⊎ (result ≡ ReadFault) ⊎ (result ≡ WriteFault) ⊎ (result ≡ TooMuchInput)

abbrev EndsRefusal : Status → Type 0
EndsRefusal result = (result ≡ NoInverse) ⊎ (result ≡ Memory) ⊎ (result ≡ WriteFault)

abbrev EndsSample : Status → Type 0
EndsSample result = (result ≡ Done) ⊎ (result ≡ NoInverse) ⊎ (result ≡ Memory) ⊎ (result ≡ WriteFault)

plain_lines : (result : Status) → EndsLines result → IsPlain result
plain_lines result (inl e) = subst IsPlain (sym e) tt
plain_lines result (inr (inl e)) = subst IsPlain (sym e) tt
plain_lines result (inr (inr (inl e))) = subst IsPlain (sym e) tt
plain_lines result (inr (inr (inr (inl e)))) = subst IsPlain (sym e) tt
plain_lines result (inr (inr (inr (inr e)))) = subst IsPlain (sym e) tt

plain_sample : (result : Status) → EndsSample result → IsPlain result
plain_sample result (inl e) = subst IsPlain (sym e) tt
plain_sample result (inr (inl e)) = subst IsPlain (sym e) tt
plain_sample result (inr (inr (inl e))) = subst IsPlain (sym e) tt
plain_sample result (inr (inr (inr e))) = subst IsPlain (sym e) tt

quiet_sample : (result : Status) → EndsSample result → IsQuiet result
quiet_sample result (inl e) = subst IsQuiet (sym e) tt
quiet_sample result (inr (inl e)) = subst IsQuiet (sym e) tt
quiet_sample result (inr (inr (inl e))) = subst IsQuiet (sym e) tt
quiet_sample result (inr (inr (inr e))) = subst IsQuiet (sym e) tt

quiet_file : (result : Status) → EndsFile result → IsQuiet result
quiet_file result (inl e) = subst IsQuiet (sym e) tt
quiet_file result (inr (inl e)) = subst IsQuiet (sym e) tt
quiet_file result (inr (inr (inl e))) = subst IsQuiet (sym e) tt
quiet_file result (inr (inr (inr (inl e)))) = subst IsQuiet (sym e) tt
quiet_file result (inr (inr (inr (inr (inl e))))) = subst IsQuiet (sym e) tt
quiet_file result (inr (inr (inr (inr (inr (inl e)))))) = subst IsQuiet (sym e) tt
quiet_file result (inr (inr (inr (inr (inr (inr e)))))) = subst IsQuiet (sym e) tt

-- how a refusal of a file ends
abbrev EndsJudged : Status → Type 0
EndsJudged result =
    (result ≡ NotATable) ⊎ (result ≡ NotComplete) ⊎ (result ≡ DiskFault) ⊎ (result ≡ Memory) ⊎ (result ≡ WriteFault) ⊎ (result ≡ NoInverse)

abbrev EndsUnread : Status → Type 0
EndsUnread result = (result ≡ NotATable) ⊎ (result ≡ NotComplete) ⊎ (result ≡ DiskFault) ⊎ (result ≡ Memory) ⊎ (result ≡ WriteFault)

quiet_judged : (result : Status) → EndsJudged result → IsQuiet result
quiet_judged result (inl e) = subst IsQuiet (sym e) tt
quiet_judged result (inr (inl e)) = subst IsQuiet (sym e) tt
quiet_judged result (inr (inr (inl e))) = subst IsQuiet (sym e) tt
quiet_judged result (inr (inr (inr (inl e)))) = subst IsQuiet (sym e) tt
quiet_judged result (inr (inr (inr (inr (inl e))))) = subst IsQuiet (sym e) tt
quiet_judged result (inr (inr (inr (inr (inr e))))) = subst IsQuiet (sym e) tt

pub judged_from_unread : (result : Status) → EndsUnread result → EndsJudged result
judged_from_unread result (inl e) = inl e
judged_from_unread result (inr (inl e)) = inr (inl e)
judged_from_unread result (inr (inr (inl e))) = inr (inr (inl e))
judged_from_unread result (inr (inr (inr (inl e)))) = inr (inr (inr (inl e)))
judged_from_unread result (inr (inr (inr (inr e)))) = inr (inr (inr (inr (inl e))))

judged_not_done : (result : Status) → EndsJudged result → ¬ (result ≡ Done)
judged_not_done result (inl e) d = cc
judged_not_done result (inr (inl e)) d = cc
judged_not_done result (inr (inr (inl e))) d = cc
judged_not_done result (inr (inr (inr (inl e)))) d = cc
judged_not_done result (inr (inr (inr (inr (inl e))))) d = cc
judged_not_done result (inr (inr (inr (inr (inr e))))) d = cc

refused_not_done : (result : Status) → EndsRefusal result → ¬ (result ≡ Done)
refused_not_done result (inl e) d = cc
refused_not_done result (inr (inl e)) d = cc
refused_not_done result (inr (inr e)) d = cc

pub takes_none : (left : Option (List ℕ)) → TakesAtMost (input_limit + 1) left left
takes_none left = record { seen = []; read = sym (before-nothing left); bounded = lit≤ tt }

module _ (asked : Asked) (contents left taken taken_new : Option (List ℕ)) (result : Status) where
  -- the source was left alone
  quiet_run : Outcome asked contents left taken taken_new result → IsQuiet result → (result ≡ DiskFault → NamesFile asked)
      → (result ≡ Done → ¬ (AsksForReplies asked)) → IsRun asked contents left left taken taken_new result
  quiet_run outcome quiet file alone = record {
    outcome = outcome;
    answered = λ e. absurd (subst IsQuiet e quiet);
    read_fault = λ e. absurd (subst IsQuiet e quiet);
    done = λ e asks. absurd (alone e asks);
    takes = λ lines. takes_none left;
    usage = λ e. subst IsQuiet e quiet;
    params = λ e. subst IsQuiet e quiet;
    disk_fault = file;
  }

  -- a residue without inverse was told, or memory was wanting
  pub refused_run : Outcome asked contents left taken taken_new result → EndsRefusal result → IsRun asked contents left left taken taken_new result
  refused_run outcome ends =
      quiet_run outcome (quiet_sample result (inr ends)) (λ e. absurd (subst IsPlain e (plain_sample result (inr ends))))
      (λ e. absurd (refused_not_done result ends e))

  -- one line was written, or a residue without inverse was told, or memory was wanting
  pub written_run : Outcome asked contents left taken taken_new result → EndsSample result → ¬ (AsksForReplies asked)
      → IsRun asked contents left left taken taken_new result
  written_run outcome ends alone =
      quiet_run outcome (quiet_sample result ends) (λ e. absurd (subst IsPlain e (plain_sample result ends))) (λ e. alone)

  -- the lines of a file were written, or it was refused, or memory was wanting, or a call of the disk failed
  pub file_run : Outcome asked contents left taken taken_new result → EndsFile result → NamesFile asked → ¬ (AsksForReplies asked)
      → IsRun asked contents left left taken taken_new result
  file_run outcome ends names alone = quiet_run outcome (quiet_file result ends) (λ e. names) (λ e. alone)

  -- a file was refused, or memory was wanting, or a call of the disk failed
  pub judged_run : Outcome asked contents left taken taken_new result → EndsJudged result → NamesFile asked
      → IsRun asked contents left left taken taken_new result
  judged_run outcome ends names = quiet_run outcome (quiet_judged result ends) (λ e. names) (λ e. absurd (judged_not_done result ends e))

module _ (asked : Asked) (contents : Option (List ℕ)) (reply : List ℕ → List ℕ) (is : IsWork asked contents (Replies reply)) where
  -- lines were replied to
  pub lines_run : (left left_new taken taken_new : Option (List ℕ)) (result : Status) → AsksForReplies asked → EndsLines result
      → Has (Replies reply) left taken taken_new result → TakesAtMost (input_limit + 1) left left_new → (result ≡ Done → Tells left_new [])
      → (result ≡ ReadFault → AnswersSeen (Replies reply) left left_new taken taken_new) → IsRun asked contents left left_new taken taken_new result
  lines_run left left_new taken taken_new result asks ends has takes done answered =
      let plain : IsPlain result = plain_lines result ends in
      record {
        outcome = outcome_of asked contents (Replies reply) left taken taken_new result is has;
        answered = λ e. answers_of asked contents (Replies reply) left left_new taken taken_new is (answered e);
        read_fault = λ e. lines_read asked asks;
        done = λ e a. done e;
        takes = λ lines. takes;
        usage = λ e. subst IsPlain e plain;
        params = λ e. subst IsPlain e plain;
        disk_fault = λ e. absurd (subst IsPlain e plain);
      }

  -- each work of what is asked for reads lines
  pub reads_lines : (work : Work) → IsWork asked contents work → ReadsLines work
  reads_lines = each_work asked contents (Replies reply) ReadsLines is tt

-- no contents are told, and so no work is
module _ (asked : Asked) (none : (work : Work) → ¬ (IsWork asked None work)) (names : NamesFile asked) (reply : List ℕ → List ℕ) where
  pub untold_lines_run : (left left_new taken taken_new : Option (List ℕ)) (result : Status) → AsksForReplies asked → EndsLines result
      → Has (Replies reply) left taken taken_new result → TakesAtMost (input_limit + 1) left left_new → (result ≡ Done → Tells left_new [])
      → IsRun asked None left left_new taken taken_new result
  untold_lines_run left left_new taken taken_new result asks ends has takes done =
      let plain : IsPlain result = plain_lines result ends in
      record {
        outcome = record {
          input = has.input;
          told = has.told;
          front = λ work is. absurd (untold_work asked names left work is);
          whole = λ told. let some : false ≡ true = told.0 names in absurd cc;
        };
        answered = λ e work is. absurd (none work is);
        read_fault = λ e. lines_read asked asks;
        done = λ e a. done e;
        takes = λ lines. takes;
        usage = λ e. subst IsPlain e plain;
        params = λ e. subst IsPlain e plain;
        disk_fault = λ e. absurd (subst IsPlain e plain);
      }
