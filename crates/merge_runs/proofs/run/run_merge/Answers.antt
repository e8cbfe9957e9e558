use Rattle.std.proofs.Common.{Ok, map, string_bytes, inl, inr, subst}
use Rattle.merge_runs.specs.MergeWords.{FailsTest}
use Rattle.merge_runs.specs.Outcomes.{IsOutcome, Goes}
use Rattle.merge_runs.proofs.OneMerge.{one_merge}
use Rattle.merge_runs.proofs.RunEndings.{not_usage, not_words, goes_through, one_told, done_merged, each_outcome, each_through, each_merged}
use Rattle.merge_runs.proofs.run.run_merge.Goals as goal

pub returns-in-Ok-clause-params : goal.returns-in-Ok-clause-params
returns-in-Ok-clause-params g c =
    let words = map string_bytes c.args.words.now in
    let merge = c.in-Ok.merge in
    let asks = c.in-Ok.ensures.asked in
    let outcome = c.merge_files.ensures.outcome in
    let never = not_words (g.K.Sink.taken c.args.sink.now) (g.K.Sink.taken c.merge_files.new.sink) (g.K.Sink.faults c.args.sink.now)
    (g.K.Sink.faults c.merge_files.new.sink) c.merge_files.result merge outcome.files outcome.goes in (
      λ e. absurd (never.1 e),
      λ cause. elim cause [
        | inl (asked, also, fails) ↦ absurd (subst FailsTest (one_merge words asked (Ok merge) also asks) fails)
        | inr (none, asked, also, fails) ↦ absurd (not_usage words (Ok merge) asks (λ e. cc) none)
      ],
    )

pub returns-in-Ok-clause-outcome : goal.returns-in-Ok-clause-outcome
returns-in-Ok-clause-outcome g c = λ asked also other.
    each_outcome (g.K.Sink.taken c.args.sink.now) (g.K.Sink.taken c.merge_files.new.sink) (g.K.Sink.faults c.args.sink.now)
    (g.K.Sink.faults c.merge_files.new.sink) c.merge_files.result (map g.D.Disk.trace c.args.disks.now) (map string_bytes c.args.words.now)
    (Ok c.in-Ok.merge) c.in-Ok.ensures.asked c.merge_files.ensures.outcome asked also

pub returns-in-Ok-clause-through : goal.returns-in-Ok-clause-through
returns-in-Ok-clause-through g c = λ asked files also other tells no_disk no_sink.
    each_through (g.K.Sink.taken c.args.sink.now) (g.K.Sink.taken c.merge_files.new.sink) (g.K.Sink.faults c.args.sink.now)
    (g.K.Sink.faults c.merge_files.new.sink) c.merge_files.result (map g.D.Disk.trace c.args.disks.now) (map string_bytes c.args.words.now)
    (Ok c.in-Ok.merge) c.in-Ok.ensures.asked c.merge_files.ensures.outcome (λ e. no_disk (c.merge_files.ensures.disk_fault_only e)) no_sink asked files
    also tells

pub returns-in-Ok-clause-merged : goal.returns-in-Ok-clause-merged
returns-in-Ok-clause-merged g c = λ merge also done.
    each_merged (g.K.Sink.taken c.args.sink.now) (g.K.Sink.taken c.merge_files.new.sink) (g.K.Sink.faults c.args.sink.now)
    (g.K.Sink.faults c.merge_files.new.sink) c.merge_files.result (map g.D.Disk.trace c.args.disks.now) (map string_bytes c.args.words.now)
    (Ok c.in-Ok.merge) c.in-Ok.ensures.asked c.merge_files.ensures.outcome merge also done

pub returns-in-Err-clause-outcome : goal.returns-in-Err-clause-outcome
returns-in-Err-clause-outcome g c = λ asked also other. c.other_words.ensures.outcome asked (map g.D.Disk.trace c.args.disks.now) also other

pub returns-in-Err-clause-through : goal.returns-in-Err-clause-through
returns-in-Err-clause-through g c = λ asked files also other tells no_disk no_sink.
    let told = map g.D.Disk.trace c.args.disks.now in
    let taken = g.K.Sink.taken c.args.sink.now in
    let taken_new = g.K.Sink.taken c.other_words.new.sink in
    let faults = g.K.Sink.faults c.args.sink.now in
    let faults_new = g.K.Sink.faults c.other_words.new.sink in
    let result = c.other_words.result in
    let here : IsOutcome asked told taken taken_new faults faults_new result = c.other_words.ensures.outcome asked told also other in
    goes_through taken taken_new faults faults_new result asked files
    (subst (λ fs. Goes asked fs taken taken_new faults faults_new result) (one_told told files here.files tells here.are_told) here.goes)
    c.other_words.ensures.no_disk_fault no_sink

pub returns-in-Err-clause-merged : goal.returns-in-Err-clause-merged
returns-in-Err-clause-merged g c = λ merge also done.
    let told = map g.D.Disk.trace c.args.disks.now in
    let here = c.other_words.ensures.outcome (Ok merge) told also (λ e. cc) in
    done_merged (g.K.Sink.taken c.args.sink.now) (g.K.Sink.taken c.other_words.new.sink) (g.K.Sink.faults c.args.sink.now)
    (g.K.Sink.faults c.other_words.new.sink) c.other_words.result merge here.files here.goes done
