use Rattle.std.proofs.Common.{◌≡◌, ◌+◌, ◌*◌, ◌%◌, sym, ◌∙◌, ap, subst, arith}
use Rattle.zeta_model.proofs.ModularLemmas.{same-mod}
use Rattle.echelon.specs.Lists.{entries_of}
use Rattle.echelon.specs.Offers.{IsRemainder}
use Rattle.echelon.specs.Inner.{numbers_of}
use Rattle.echelon.proofs.AtLeads.{remainder_same}
use Rattle.echelon.proofs.remainder.remainder_in.Goals as goal

pub cancel_at_leads-requires-clause-same : goal.cancel_at_leads-requires-clause-same
cancel_at_leads-requires-clause-same g c =
    let ring = c.args.ring.now in
    let m = g.R.Ring.modulus ring in
    let value = g.R.Ring.value ring in
    let total = g.R.Ring.total ring in
    let one : value c.one.result ≡ 1 = ap value c.one.ensures ∙ g.met.R.Ring.value_one ring in
    λ q.
    ap (λ es. entries_of value es q % m) c.entries-2.ensures.entries
    ∙ sym (c.add_entries.ensures.sum q
    ∙ ap (λ x. x % m) ((λ i. numbers_of total c.args.sums.now q + one i * entries_of value (c.entries.ensures.entries i) q)
    ∙ omega (arith, c.requires.zero q)))

pub returns-clause-remainder : goal.returns-clause-remainder
returns-clause-remainder g c =
    let ring = c.args.ring.now in
    let m = g.R.Ring.modulus ring in
    let value = g.R.Ring.value ring in
    let total = g.R.Ring.total ring in
    subst (λ es. IsRemainder m value c.args.rows.now (entries_of value es) (entries_of value c.in_ok-left.left)) c.entries-2.ensures.entries
    (remainder_same m value c.args.rows.now (entries_of value c.entries-2.result.now) (numbers_of total c.cancel_at_leads.new.sums)
    (entries_of value c.in_ok-left.left) c.cancel_at_leads.ensures.remainder
    (λ q. ap (λ x. x % m) (c.in_ok-left.ensures.entries q) ∙ same-mod m (numbers_of total c.cancel_at_leads.new.sums q)))
