use Rattle.std.proofs.Common.{Ok, Err, map, string_bytes, subst, inl, inr}
use Rattle.whole_runs.specs.declared.command.Command.TheVariants.{Check, Rewrite, Rational, Build, Resume, Migrate}
use Rattle.whole_runs.specs.CommandLine.{Asks}
use Rattle.whole_runs.specs.Outcomes.{Outcome, AnswersSeen, AsksForReplies, AsksForPages, ReadsSource, NamesFile}
use Rattle.whole_runs.specs.Works.{ReadsLines}
use Rattle.whole_runs.proofs.Outcomes.{each_asked}
use Rattle.datamine_program.proofs.Asking.{each_wanted, not_usage, passes, dual_tells, table_tells, file_checked, file_tells, fractions_tell, same_fault, fails, no_dual, no_reduce, no_command, is_asked}
use Rattle.datamine_program.specs.Leaving.{WritesFile}
use Rattle.file_model.proofs.PastSteps.{run_continues}
use Rattle.datamine_program.proofs.Runs.{takes_none}
use Rattle.datamine_program.proofs.commands.run.Goals as goal

pub returns-in-Ok-clause-usage : goal.returns-in-Ok-clause-usage
returns-in-Ok-clause-usage g c =
    let words = map string_bytes c.args.words.now in
    (λ e. absurd (c.perform.ensures.run.usage e), λ is. absurd (not_usage words c.in-Ok.command c.in-Ok.ensures.asked is))

pub returns-in-Ok-clause-params : goal.returns-in-Ok-clause-params
returns-in-Ok-clause-params g c =
    let words = map string_bytes c.args.words.now in
    (λ e. absurd (c.perform.ensures.run.params e), λ f. absurd (passes words c.in-Ok.command c.in-Ok.ensures.asked f))

pub returns-in-Ok-clause-disk_fault_only : goal.returns-in-Ok-clause-disk_fault_only
returns-in-Ok-clause-disk_fault_only g c =
    λ e. (Ok c.in-Ok.command, c.in-Ok.ensures.asked, c.perform.ensures.run.disk_fault e, c.perform.ensures.disk_fault_only e)

pub returns-in-Ok-clause-read_fault_only : goal.returns-in-Ok-clause-read_fault_only
returns-in-Ok-clause-read_fault_only g c =
    λ e. (Ok c.in-Ok.command, c.in-Ok.ensures.asked, c.perform.ensures.run.read_fault e, c.perform.ensures.read_fault_only e)

pub returns-in-Ok-clause-outcome : goal.returns-in-Ok-clause-outcome
returns-in-Ok-clause-outcome g c =
    let words = map string_bytes c.args.words.now in
    each_asked words (Ok c.in-Ok.command) (λ a. Outcome a _ _ _ _ _) c.in-Ok.ensures.asked c.perform.ensures.run.outcome

pub returns-in-Ok-clause-done : goal.returns-in-Ok-clause-done
returns-in-Ok-clause-done g c =
    let words = map string_bytes c.args.words.now in
    λ asked is e a. c.perform.ensures.run.done e (each_asked words asked (λ b. AsksForReplies b) is a (Ok c.in-Ok.command) c.in-Ok.ensures.asked)

pub returns-in-Ok-clause-answered : goal.returns-in-Ok-clause-answered
returns-in-Ok-clause-answered g c =
    let words = map string_bytes c.args.words.now in
    λ e. each_wanted words _ (Ok c.in-Ok.command) (λ work. AnswersSeen work _ _ _ _) c.in-Ok.ensures.asked (c.perform.ensures.run.answered e)

pub returns-in-Ok-clause-source : goal.returns-in-Ok-clause-source
returns-in-Ok-clause-source g c =
    let words = map string_bytes c.args.words.now in
    each_wanted words _ (Ok c.in-Ok.command) (λ work. ¬ (ReadsLines work) → _) c.in-Ok.ensures.asked c.perform.ensures.source

pub returns-in-Ok-clause-takes : goal.returns-in-Ok-clause-takes
returns-in-Ok-clause-takes g c =
    let words = map string_bytes c.args.words.now in
    λ asked is lines.
    c.perform.ensures.run.takes (λ pages. lines (each_asked words (Ok c.in-Ok.command) (λ b. AsksForPages b) c.in-Ok.ensures.asked pages asked is))

pub returns-in-Ok-clause-replies : goal.returns-in-Ok-clause-replies
returns-in-Ok-clause-replies g c =
    dual_tells (map string_bytes c.args.words.now) c.in-Ok.command c.in-Ok.ensures.asked c.in-Ok.ensures.in_range

pub returns-in-Ok-clause-reduce : goal.returns-in-Ok-clause-reduce
returns-in-Ok-clause-reduce g c =
    table_tells (map string_bytes c.args.words.now) c.in-Ok.command c.in-Ok.ensures.asked c.in-Ok.ensures.in_range _ _ _ _ _ c.perform.ensures.run.outcome

pub returns-in-Err-clause-usage : goal.returns-in-Err-clause-usage
returns-in-Err-clause-usage g c =
    let words = map string_bytes c.args.words.now in (
      λ e. subst (λ f. Asks words (Err f)) (c.refuse.ensures.usage.0 e) c.in-Err.ensures.asked,
      λ is. c.refuse.ensures.usage.1 (same_fault words c.in-Err.fault c.in-Err.ensures.asked is),
    )

pub returns-in-Err-clause-params : goal.returns-in-Err-clause-params
returns-in-Err-clause-params g c =
    let words = map string_bytes c.args.words.now in (
      λ e. (Err c.in-Err.fault, c.in-Err.ensures.asked, c.refuse.ensures.params.0 e),
      λ f. c.refuse.ensures.params.1 (fails words c.in-Err.fault c.in-Err.ensures.asked f),
    )

pub returns-in-Err-clause-outcome : goal.returns-in-Err-clause-outcome
returns-in-Err-clause-outcome g c =
    let words = map string_bytes c.args.words.now in
    each_asked words (Err c.in-Err.fault) (λ a. Outcome a _ _ _ _ _) c.in-Err.ensures.asked (c.refuse.ensures.outcome _ _)

pub returns-in-Err-clause-takes : goal.returns-in-Err-clause-takes
returns-in-Err-clause-takes g c = λ asked is lines. takes_none _

pub returns-in-Err-clause-replies : goal.returns-in-Err-clause-replies
returns-in-Err-clause-replies g c =
    λ m is. absurd (no_dual (map string_bytes c.args.words.now) c.in-Err.fault c.in-Err.ensures.asked m is)

pub returns-in-Err-clause-reduce : goal.returns-in-Err-clause-reduce
returns-in-Err-clause-reduce g c =
    λ params is e. absurd (no_reduce (map string_bytes c.args.words.now) c.in-Err.fault c.in-Err.ensures.asked params is)

pub returns-in-Ok-clause-no_lines : goal.returns-in-Ok-clause-no_lines
returns-in-Ok-clause-no_lines g c =
    let words = map string_bytes c.args.words.now in
    λ asked is quiet.
    c.perform.ensures.no_lines (λ a. quiet (each_asked words (Ok c.in-Ok.command) (λ b. ReadsSource b) c.in-Ok.ensures.asked a asked is))

pub returns-in-Ok-clause-disk : goal.returns-in-Ok-clause-disk
returns-in-Ok-clause-disk g c =
    let words = map string_bytes c.args.words.now in
    λ asked is plain.
    c.perform.ensures.disk (λ a. plain (each_asked words (Ok c.in-Ok.command) (λ b. NamesFile b) c.in-Ok.ensures.asked a asked is))

pub returns-in-Ok-clause-check : goal.returns-in-Ok-clause-check
returns-in-Ok-clause-check g c =
    file_checked (map string_bytes c.args.words.now) c.in-Ok.command c.in-Ok.ensures.asked _ _ _ _ _ c.perform.ensures.run.outcome

pub returns-in-Err-clause-check : goal.returns-in-Err-clause-check
returns-in-Err-clause-check g c =
    λ bytes is told e. absurd (no_command (map string_bytes c.args.words.now) c.in-Err.fault c.in-Err.ensures.asked Check is)

pub returns-in-Ok-clause-rewrite : goal.returns-in-Ok-clause-rewrite
returns-in-Ok-clause-rewrite g c =
    file_tells (map string_bytes c.args.words.now) c.in-Ok.command c.in-Ok.ensures.asked _ _ _ _ _ c.perform.ensures.run.outcome

pub returns-in-Err-clause-rewrite : goal.returns-in-Err-clause-rewrite
returns-in-Err-clause-rewrite g c =
    λ bytes is told e. absurd (no_command (map string_bytes c.args.words.now) c.in-Err.fault c.in-Err.ensures.asked Rewrite is)

pub returns-in-Ok-clause-rational : goal.returns-in-Ok-clause-rational
returns-in-Ok-clause-rational g c =
    fractions_tell (map string_bytes c.args.words.now) c.in-Ok.command c.in-Ok.ensures.asked _ _ _ _ _ c.perform.ensures.run.outcome

pub returns-in-Err-clause-rational : goal.returns-in-Err-clause-rational
returns-in-Err-clause-rational g c =
    λ bytes is told e. absurd (no_command (map string_bytes c.args.words.now) c.in-Err.fault c.in-Err.ensures.asked Rational is)

pub returns-in-Ok-clause-unchanged : goal.returns-in-Ok-clause-unchanged
returns-in-Ok-clause-unchanged g c =
    let words = map string_bytes c.args.words.now in
    λ asked is quiet.
    c.perform.ensures.unchanged (λ a. quiet (each_asked words (Ok c.in-Ok.command) (λ b. WritesFile b) c.in-Ok.ensures.asked a asked is))

pub returns-in-Ok-clause-build : goal.returns-in-Ok-clause-build
returns-in-Ok-clause-build g c = λ params is.
    c.perform.ensures.build params (is_asked (map string_bytes c.args.words.now) c.in-Ok.command c.in-Ok.ensures.asked (Build params) is)

pub returns-in-Err-clause-build : goal.returns-in-Err-clause-build
returns-in-Err-clause-build g c =
    λ params is. absurd (no_command (map string_bytes c.args.words.now) c.in-Err.fault c.in-Err.ensures.asked (Build params) is)

pub returns-in-Ok-clause-resume : goal.returns-in-Ok-clause-resume
returns-in-Ok-clause-resume g c = λ params is.
    c.perform.ensures.resume params (is_asked (map string_bytes c.args.words.now) c.in-Ok.command c.in-Ok.ensures.asked (Resume params) is)

pub returns-in-Err-clause-resume : goal.returns-in-Err-clause-resume
returns-in-Err-clause-resume g c =
    λ params is. absurd (no_command (map string_bytes c.args.words.now) c.in-Err.fault c.in-Err.ensures.asked (Resume params) is)

pub returns-in-Ok-clause-migrate : goal.returns-in-Ok-clause-migrate
returns-in-Ok-clause-migrate g c = λ is.
    c.perform.ensures.migrate (is_asked (map string_bytes c.args.words.now) c.in-Ok.command c.in-Ok.ensures.asked Migrate is)

pub returns-in-Err-clause-migrate : goal.returns-in-Err-clause-migrate
returns-in-Err-clause-migrate g c =
    λ is. absurd (no_command (map string_bytes c.args.words.now) c.in-Err.fault c.in-Err.ensures.asked Migrate is)

pub returns-in-Ok-clause-continues : goal.returns-in-Ok-clause-continues
returns-in-Ok-clause-continues g c = λ params asked is builds.
    let words = map string_bytes c.args.words.now in
    elim builds [
      | inl same ↦
          let left = c.perform.ensures.build params (is_asked words c.in-Ok.command c.in-Ok.ensures.asked (Build params) (subst (Asks words) same is)) in
          run_continues params _ _ left.stays
      | inr same ↦
          let left = c.perform.ensures.resume params (is_asked words c.in-Ok.command c.in-Ok.ensures.asked (Resume params) (subst (Asks words) same is)) in
          run_continues params _ _ left.stays
    ]

pub returns-in-Err-clause-continues : goal.returns-in-Err-clause-continues
returns-in-Err-clause-continues g c = λ params asked is builds.
    let words = map string_bytes c.args.words.now in
    elim builds [
      | inl same ↦ absurd (no_command words c.in-Err.fault c.in-Err.ensures.asked (Build params) (subst (Asks words) same is))
      | inr same ↦ absurd (no_command words c.in-Err.fault c.in-Err.ensures.asked (Resume params) (subst (Asks words) same is))
    ]

pub returns-in-Ok-clause-in_file : goal.returns-in-Ok-clause-in_file
returns-in-Ok-clause-in_file g c = λ params asked is builds done.
    let words = map string_bytes c.args.words.now in
    elim builds [
      | inl same ↦ c.perform.ensures.built_in_file params
          (is_asked words c.in-Ok.command c.in-Ok.ensures.asked (Build params) (subst (Asks words) same is)) done
      | inr same ↦ c.perform.ensures.resumed_in_file params
          (is_asked words c.in-Ok.command c.in-Ok.ensures.asked (Resume params) (subst (Asks words) same is)) done
    ]

pub returns-in-Err-clause-in_file : goal.returns-in-Err-clause-in_file
returns-in-Err-clause-in_file g c = λ params asked is builds done.
    let words = map string_bytes c.args.words.now in
    elim builds [
      | inl same ↦ absurd (no_command words c.in-Err.fault c.in-Err.ensures.asked (Build params) (subst (Asks words) same is))
      | inr same ↦ absurd (no_command words c.in-Err.fault c.in-Err.ensures.asked (Resume params) (subst (Asks words) same is))
    ]
