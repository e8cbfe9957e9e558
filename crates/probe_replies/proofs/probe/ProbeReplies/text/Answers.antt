use Rattle.std.proofs.lemmas.Result.{IfOk-weaker}
use Rattle.probe_replies.specs.Replies.{reads}
use Rattle.probe_replies.proofs.ReplyLemmas.{refused_reply, told_ok}
use Rattle.probe_replies.proofs.probe.ProbeReplies.text.Goals as goal

pub returns-in-Ok : goal.returns-in-Ok
returns-in-Ok g c = IfOk-weaker c.value_text.result _ _ (λ text h. reads c.in-Ok.e c.in-Ok.ensures.fits c.in-Ok.ensures.ok h) c.value_text.ensures

pub returns-in-Err : goal.returns-in-Err
returns-in-Err g c =
    let p = c.args.self.now in
    told_ok _ _ _ c.refusal_text.result
    (λ text other h. refused_reply (g.R.Ring.modulus p.ring) p.sums.1 c.args.line.now c.in-Err.fault _ c.in-Err.ensures.err other h)
    c.refusal_text.ensures.memory c.refusal_text.ensures.text
