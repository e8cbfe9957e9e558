use Rattle.std.proofs.Common.{List, ℕ, ◌++◌, ap, ◌∙◌}
use Rattle.probe_replies.proofs.ReplyLemmas.{some_reply, one_reply}
use Rattle.probe_replies.proofs.probe.ProbeRepliesReplier.reply.Goals as goal

pub returns-clause-ok : goal.returns-clause-ok
returns-clause-ok g c =
    let m = g.R.Ring.modulus c.args.self.now.ring in
    let n = c.args.self.now.sums.1 in
    let line = c.args.line.now in
    c.in_ok-extend_from_slice.ensures.items
    ∙ ap (λ (b : List ℕ). c.args.out.now.items ++ b) (c.as_bytes.ensures.value ∙ one_reply m n line _ _ c.in_ok-text.ensures (some_reply m n line))
