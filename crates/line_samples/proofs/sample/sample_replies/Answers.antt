use Rattle.std.proofs.Common.{◌++◌, ap, ◌∙◌, arith}
use Rattle.std.specs.Prelude.{string_bytes}
use Rattle.line_samples.specs.Samples.{sample_lines, line_from}
use Rattle.line_samples.proofs.SampleLemmas.{counted-first, counted-more, counted-last}
use Rattle.line_samples.proofs.sample.sample_replies.Goals as goal

pub loop-i-init : goal.loop-i-init
loop-i-init g c = record {
  few = omega (arith, c.new-tally.ensures.zero_is);
  counted = counted-first (g.R.Replier.reply_to c.args.replier.now) c.args.words.now c.args.count _ _
      c.new-draws.result.state c.new-tally.result.seen c.new-tally.result.zero
      c.new-tally.result.terms (omega arith) c.new-draws.ensures c.new-tally.ensures;
}

pub loop-i-preserved : goal.loop-i-preserved
loop-i-preserved g c =
    let reply = g.R.Replier.reply_to c.args.replier.now in
    let t = c.loop-i.tally in
    let u = c.take.new.self in
    let text = c.in_ok-push_line.ensures.text ∙ ap (λ b. b ++ line_from c.args.words.now c.loop-i.draws.state) c.clear.ensures.bytes in
    let replied = c.deref.ensures.value ∙ c.in_ok-reply.ensures.ok
    ∙ ap (λ b. b ++ reply c.as_bytes.result.now) c.clear-in-loop-i.ensures.items ∙ ap reply c.as_bytes.ensures.value in
    record {
      few = omega (arith, c.loop-i.invariant.few, c.in_ok-take.ensures.zero);
      counted = counted-more reply c.args.words.now _ _ _ c.loop-i.draws.state c.push_line.new.draws.state
          (string_bytes c.push_line.new.line) c.deref.result.now
          t.seen u.seen t.zero u.zero t.terms u.terms (omega arith) text replied
          c.in_ok-push_line.ensures.state c.in_ok-take.ensures.ok c.loop-i.invariant.counted;
    }

pub returns : goal.returns
returns g c =
    let t = c.loop-i.tally in
    let all = sample_lines c.args.words.now c.args.seed c.args.count in
    let counts = counted-last (g.R.Replier.reply_to c.args.replier.now) c.args.words.now all _
    c.loop-i.draws.state t.seen t.zero t.terms (omega arith) c.loop-i.invariant.counted in
    record {
      zero = c.sampled.ensures.zero ∙ counts.zero_is;
      distinct = c.sampled.ensures.distinct ∙ counts.distinct_is;
      terms = c.sampled.ensures.terms ∙ counts.terms_is;
    }
