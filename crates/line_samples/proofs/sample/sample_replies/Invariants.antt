use Rattle.std.proofs.Common.{◌-◌, ◌≤◌}
use Rattle.line_samples.specs.Samples.{sample_lines}
use Rattle.line_samples.proofs.SampleLemmas.{IsCounted}
use Rattle.line_samples.proofs.sample.sample_replies.Given as goal

abbrev pub invariant-loop-i : goal.invariant-loop-i
invariant-loop-i g l = record {
  few : l.tally.zero ≤ l.i;
  counted : IsCounted (g.R.Replier.reply_to l.replier) l.words (sample_lines l.words l.seed l.count) (l.count - l.i)
      l.draws.state l.tally.seen l.tally.zero l.tally.terms;
}
