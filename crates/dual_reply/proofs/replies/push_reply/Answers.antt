use Rattle.std.proofs.Common.{◌≡◌, ◌++◌, sym, ap, subst, ◌∙◌}
use Rattle.std.specs.Prelude.{OnOk}
use Rattle.dual_reply.specs.Inner.{entries_of}
use Rattle.dual_reply.specs.Reply.{sum_text, reply_to}
use Rattle.dual_reply.proofs.ListingLaws.{listing_is}
use Rattle.dual_reply.proofs.replies.push_reply.Goals as goal

pub returns-in_ok-entries-in-Ok-clause-ok : goal.returns-in_ok-entries-in-Ok-clause-ok
returns-in_ok-entries-in-Ok-clause-ok c =
    let ring = c.args.ring.now in
    let m = ring.modulus in
    subst (λ text. OnOk c.push_text.result (c.push_text.new.out.items ≡ c.args.out.now.items ++ text))
    (ap sum_text c.deref-in-Ok.ensures.value
    ∙ ap sum_text (listing_is m ring.from c.deref.result.now c.in_ok-entries-in-Ok.entries.items c.in_ok-entries-in-Ok.ensures)
    ∙ ap (λ ts. sum_text (entries_of m ts)) c.deref.ensures
    ∙ ap (reply_to m) (sym (rw c.in-Ok.is at c.in_ok-terms.ensures)))
    c.push_text.ensures.ok
