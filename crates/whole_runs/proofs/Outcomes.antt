-- What a run has of the whole one.
use Rattle.std.specs.Prelude.{◌≡◌, ◌⊎◌, ℕ, List, [], Option, Some, None}
use Rattle.std.proofs.Common.{refl, subst, inl, inr}
use Rattle.outside_io.specs.Told.{after_told, AppendsFront}
use Rattle.outside_io.proofs.Telling.{none_taken, all_taken}
use Rattle.line_loop.specs.Talk.{Tells}
use Rattle.whole_runs.specs.declared.status.Status.{Status}
use Rattle.whole_runs.specs.Statuses.{BreaksOff}
use Rattle.whole_runs.specs.CommandLine.{Asked, Asks}
use Rattle.whole_runs.specs.Works.{Work, output_of}
use Rattle.whole_runs.specs.Wanted.{IsWork, IsWorkOver}
use Rattle.whole_runs.specs.Works.Work.{Writes}
use Rattle.whole_runs.specs.Outcomes.{Has, Outcome, AnswersSeen}
use Rattle.whole_runs.proofs.OneAsk.{one_ask}
use Rattle.whole_runs.proofs.OneWork.{one_work}
use Rattle.whole_runs.proofs.OneCopy.{one_work_over, work_over}

-- what holds of the work holds of each
pub each_work : (asked : Asked) (contents : Option (List ℕ)) (work : Work) (P : Work → Type 0) → IsWork asked contents work → P work
    → (v : Work) → IsWork asked contents v → P v
each_work asked contents work P is holds v other = subst P (one_work asked contents work v is other) holds

-- what holds of what is asked for holds of all that is
pub each_asked : (words : List (List ℕ)) (a : Asked) (P : Asked → Type 0) → Asks words a → P a → (b : Asked) → Asks words b → P b
each_asked words a P asks holds b other = subst P (one_ask words a b asks other) holds

pub outcome_over : (asked : Asked) (contents : Option (List ℕ)) (work : Work) (left taken taken_new : Option (List ℕ)) (result : Status)
    → IsWorkOver asked contents left work → Has work left taken taken_new result → Outcome asked contents left taken taken_new result
outcome_over asked contents work left taken taken_new result is run = record {
  input = run.input;
  told = run.told;
  front = λ v other. subst (λ u. AppendsFront taken taken_new (output_of u run.input)) (one_work_over asked contents left work v is other) run.front;
  whole = λ told. elim run.whole [ inl broken ↦ inl broken | inr (all, end) ↦ inr (work, is, all, end) ];
}

pub outcome_of : (asked : Asked) (contents : Option (List ℕ)) (work : Work) (left taken taken_new : Option (List ℕ)) (result : Status)
    → IsWork asked contents work → Has work left taken taken_new result → Outcome asked contents left taken taken_new result
outcome_of asked contents work left taken taken_new result is run =
    outcome_over asked contents work left taken taken_new result (work_over asked contents left work is) run

-- some bytes that a source tells, where it tells
some_input : (left : Option (List ℕ)) → (input : List ℕ) × Tells left input
some_input None = ([], tt)
some_input (Some xs) = (xs, refl)

-- nothing was written
pub broken_off : (asked : Asked) (contents left taken : Option (List ℕ)) (result : Status) → BreaksOff result
    → Outcome asked contents left taken taken result
broken_off asked contents left taken result broken =
    let input = some_input left in
    record { input = input.0; told = input.1; front = λ work is. none_taken taken (output_of work input.0); whole = λ told. inl broken }

pub answers_of : (asked : Asked) (contents : Option (List ℕ)) (work : Work) (left left_new taken taken_new : Option (List ℕ))
    → IsWork asked contents work → AnswersSeen work left left_new taken taken_new
    → (v : Work) → IsWork asked contents v → AnswersSeen v left left_new taken taken_new
answers_of asked contents work left left_new taken taken_new is seen =
    each_work asked contents work (λ v. AnswersSeen v left left_new taken taken_new) is seen

module _ (bytes : List ℕ) (end : Status) (taken taken_new left : Option (List ℕ)) where
  has : (result : Status) → AppendsFront taken taken_new bytes → BreaksOff result ⊎ ((taken_new ≡ after_told taken bytes) × (result ≡ end))
      → Has (Writes bytes end) left taken taken_new result
  has result front whole = let input = some_input left in record { input = input.0; told = input.1; front = front; whole = whole }

  -- all the bytes were written
  pub writes_all : taken_new ≡ after_told taken bytes → Has (Writes bytes end) left taken taken_new end
  writes_all all = has end (all_taken taken taken_new bytes all) (inr (all, refl))

  -- the first of them were written
  pub writes_in_part : (result : Status) → BreaksOff result → AppendsFront taken taken_new bytes → Has (Writes bytes end) left taken taken_new result
  writes_in_part result broken front = has result front (inl broken)

-- none of the bytes were written
pub writes_none : (bytes : List ℕ) (end result : Status) (taken left : Option (List ℕ)) → BreaksOff result → Has (Writes bytes end) left taken taken result
writes_none bytes end result taken left broken = writes_in_part bytes end taken taken left result broken (none_taken taken bytes)
