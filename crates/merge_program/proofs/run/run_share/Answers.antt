use Rattle.std.proofs.Common.{Ok, Err, map, string_bytes, subst}
use Rattle.merge_program.specs.ShareRuns.{FailsTest, IsOutcome, IsRefused}
use Rattle.merge_program.proofs.OneShare.{each_asked, same_share, same_fault, not_both}
use Rattle.merge_program.proofs.Endings.{run_outcome, run_not_params, run_refused, run_not_done, run_through}
use Rattle.merge_program.proofs.Endings.{refusal_outcome, refusal_of, refusal_ends, refusal_fails, refusal_params, refusal_not_inverse}
use Rattle.merge_program.proofs.run.run_share.Goals as goal

pub returns-in-Ok-clause-params : goal.returns-in-Ok-clause-params
returns-in-Ok-clause-params g c =
    let words = map string_bytes c.args.words.now in (
      λ e. absurd (run_not_params _ _ _ _ _ _ c.make_share.ensures e),
      λ f. absurd (each_asked words f.0 (λ a. FailsTest a) f.1 f.2 (Ok c.in-Ok.share) c.in-Ok.ensures.asked),
    )

pub returns-in-Ok-clause-no_inverse : goal.returns-in-Ok-clause-no_inverse
returns-in-Ok-clause-no_inverse g c =
    let words = map string_bytes c.args.words.now in
    let share = c.in-Ok.share in (
      λ e. (share, c.in-Ok.ensures.asked, run_refused _ _ _ _ _ _ c.make_share.ensures e),
      λ f. run_not_done _ _ _ _ _ _ c.in-Ok.ensures.in_range.params c.make_share.ensures
          (subst IsRefused (same_share words f.0 share f.1 c.in-Ok.ensures.asked) f.2),
    )

pub returns-in-Ok-clause-outcome : goal.returns-in-Ok-clause-outcome
returns-in-Ok-clause-outcome g c =
    let words = map string_bytes c.args.words.now in
    each_asked words (Ok c.in-Ok.share) (λ a. IsOutcome a _ _ _) c.in-Ok.ensures.asked (run_outcome _ _ _ _ _ _ c.make_share.ensures)

pub returns-in-Ok-clause-refused : goal.returns-in-Ok-clause-refused
returns-in-Ok-clause-refused g c =
    let words = map string_bytes c.args.words.now in
    λ fault is. absurd (not_both words c.in-Ok.share fault c.in-Ok.ensures.asked is)

pub returns-in-Ok-clause-through : goal.returns-in-Ok-clause-through
returns-in-Ok-clause-through g c =
    let words = map string_bytes c.args.words.now in
    let share = c.in-Ok.share in
    λ other is free quiet. run_through _ _ _ _ _ _ c.make_share.ensures
    (λ refused. free (subst IsRefused (same_share words share other c.in-Ok.ensures.asked is) refused)) quiet

pub returns-in-Err-clause-params : goal.returns-in-Err-clause-params
returns-in-Err-clause-params g c =
    let words = map string_bytes c.args.words.now in
    let fault = c.in-Err.fault in
    let ends = refusal_ends fault _ _ _ _ _ c.refuse_words.ensures in (
      λ e. (Err fault, c.in-Err.ensures.asked, refusal_fails fault _ ends e),
      λ f. refusal_params fault _ ends (each_asked words f.0 (λ a. FailsTest a) f.1 f.2 (Err fault) c.in-Err.ensures.asked),
    )

pub returns-in-Err-clause-no_inverse : goal.returns-in-Err-clause-no_inverse
returns-in-Err-clause-no_inverse g c =
    let words = map string_bytes c.args.words.now in
    let fault = c.in-Err.fault in (
      λ e. absurd (refusal_not_inverse fault _ (refusal_ends fault _ _ _ _ _ c.refuse_words.ensures) e),
      λ f. absurd (not_both words f.0 fault f.1 c.in-Err.ensures.asked),
    )

pub returns-in-Err-clause-outcome : goal.returns-in-Err-clause-outcome
returns-in-Err-clause-outcome g c =
    let words = map string_bytes c.args.words.now in
    let fault = c.in-Err.fault in
    each_asked words (Err fault) (λ a. IsOutcome a _ _ _) c.in-Err.ensures.asked (refusal_outcome fault _ _ _ _ _ c.refuse_words.ensures)

pub returns-in-Err-clause-refused : goal.returns-in-Err-clause-refused
returns-in-Err-clause-refused g c =
    let words = map string_bytes c.args.words.now in
    let fault = c.in-Err.fault in
    λ other is. refusal_of fault _ _ _ _ _ other (same_fault words fault other c.in-Err.ensures.asked is) c.refuse_words.ensures

pub returns-in-Err-clause-through : goal.returns-in-Err-clause-through
returns-in-Err-clause-through g c =
    let words = map string_bytes c.args.words.now in
    let fault = c.in-Err.fault in
    λ share is. absurd (not_both words share fault is c.in-Err.ensures.asked)
