use Rattle.std.proofs.Common.{◌≡◌, ℕ, Err, subst, sym, ap}
use Rattle.truncated_sums.specs.declared.fault.SumFault.{SumFault}
use Rattle.probe_replies.specs.Inner.{reply_of}
use Rattle.probe_replies.specs.Replies.{IsProbeReply}
use Rattle.probe_replies.proofs.ReplyLemmas.{some_reply}
use Rattle.probe_replies.proofs.probe.ProbeReplies.new.Goals as goal

pub returns-in-Ok-clause-replies : goal.returns-in-Ok-clause-replies
returns-in-Ok-clause-replies g c = λ line.
    let m = g.R.Ring.modulus c.args.ring in
    let size : c.args.n ≡ c.in-Ok.sums.1 = sym (ap (λ (t : g.row.R.Denot × ℕ). t.1) c.in-Ok.ensures.ok) in
    subst (λ (k : ℕ). IsProbeReply m c.args.n line (reply_of m k line)) size (some_reply m c.args.n line)

pub returns-in-Err-clause-no_inverse : goal.returns-in-Err-clause-no_inverse
returns-in-Err-clause-no_inverse g c = λ value term h.
    let same : c.in-Err.fault ≡ SumFault.NoInverse value term = cc in
    c.in-Err.ensures.no_inverse value term (ap Err same)
