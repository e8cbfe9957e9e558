use Rattle.std.proofs.Common.{◌≡◌, Err, None, map, string_bytes, inl, inr, subst}
use Rattle.merge_program.specs.declared.status.MergeStatus.TheVariants as status
use Rattle.merge_program.specs.declared.words.MergeWordsFault.TheVariants.{Usage}
use Rattle.merge_runs.specs.MergeWords.{AsksForMerge, FailsTest, merge_request}
use Rattle.merge_runs.proofs.OneMerge.{one_merge}
use Rattle.merge_runs.proofs.RunEndings.{no_request, not_usage, each_outcome, words_refused, refused_ends, refused_faults, refused_write, refused_not, refused_fails}
use Rattle.merge_runs.proofs.run.other_words.Goals as goal

pub returns-in-Usage-clause-usage : goal.returns-in-Usage-clause-usage
returns-in-Usage-clause-usage g c =
    let words = map string_bytes c.args.words.now in
    let asks = subst (λ f. AsksForMerge words (Err f)) c.in-Usage.is c.requires in
    (λ e. (no_request words asks, c.run_share.ensures.usage.0 e), λ cause. c.run_share.ensures.usage.1 cause.1)

pub returns-in-Usage-clause-params : goal.returns-in-Usage-clause-params
returns-in-Usage-clause-params g c =
    let words = map string_bytes c.args.words.now in
    let asks = subst (λ f. AsksForMerge words (Err f)) c.in-Usage.is c.requires in (
      λ e. let given = c.run_share.ensures.params.0 e in inr (no_request words asks, given.0, given.1, given.2),
      λ cause. elim cause [
        | inl (asked, also, fails) ↦ absurd (subst FailsTest (one_merge words asked (Err Usage) also asks) fails)
        | inr (none, asked, also, fails) ↦ c.run_share.ensures.params.1 (asked, also, fails)
      ],
    )

pub returns-in-Usage-clause-outcome : goal.returns-in-Usage-clause-outcome
returns-in-Usage-clause-outcome g c = λ asked told also other.
    let words = map string_bytes c.args.words.now in
    absurd (other (one_merge words asked (Err Usage) also (subst (λ f. AsksForMerge words (Err f)) c.in-Usage.is c.requires)))

pub returns-in-Usage-clause-share_outcome : goal.returns-in-Usage-clause-share_outcome
returns-in-Usage-clause-share_outcome g c = λ asked none asks. c.run_share.ensures.outcome asked asks

-- the words are refused, and ask for no share
pub returns-in_default : goal.returns-in_default
returns-in_default g c =
    let words = map string_bytes c.args.words.now in
    let fault = c.args.fault in
    let taken = g.K.Sink.taken c.args.sink.now in
    let taken_new = g.K.Sink.taken c.refuse_words.new.sink in
    let faults = g.K.Sink.faults c.args.sink.now in
    let faults_new = g.K.Sink.faults c.refuse_words.new.sink in
    let result = c.refuse_words.result in
    let other : fault ≡ Usage → ⊥ = λ e. c.in_default.not-Usage e in
    let end = c.refuse_words.ensures in
    let not_none : ¬ (merge_request words ≡ None) =
    not_usage words (Err fault) c.requires (λ e. let same : fault ≡ Usage = cc in other same) in
    record {
      usage = (
        λ e. absurd (refused_not taken taken_new faults faults_new result fault other end status.Usage (λ x. cc) (λ x. cc) e),
        λ cause. absurd (not_none cause.0),
      );
      params = (
        λ e. inl (Err fault, c.requires, refused_fails taken taken_new faults faults_new result fault other end),
        λ cause. refused_ends taken taken_new faults faults_new result fault other end,
      );
      outcome = λ asked told also strange. each_outcome taken taken_new faults faults_new result told words (Err fault) c.requires
          (words_refused taken taken_new faults faults_new result told words fault c.requires other end) asked also;
      share_outcome = λ asked none asks. absurd (not_none none);
      share_done = λ none done. absurd (not_none none);
      share_through = λ share none asks stands rose. absurd (not_none none);
      sink_faults = refused_faults taken taken_new faults faults_new result fault other end;
      no_disk_fault = refused_not taken taken_new faults faults_new result fault other end status.DiskFault (λ x. cc) (λ x. cc);
      write_fault_only = refused_write taken taken_new faults faults_new result fault other end;
    }
