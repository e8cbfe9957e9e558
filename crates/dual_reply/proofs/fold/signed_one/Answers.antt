use Rattle.std.proofs.Common.{◌≡◌, true, sym, ap, subst, ◌∙◌}
use Rattle.dual_reply.specs.Sums.{sign_number}
use Rattle.dual_reply.proofs.FoldedTerms.{opposite_of_one}
use Rattle.dual_reply.proofs.fold.signed_one.Goals as goal

pub returns-then-negative-clause-value : goal.returns-then-negative-clause-value
returns-then-negative-clause-value g c =
    let ring = c.args.ring.now in
    let m = g.R.Ring.modulus ring in
    let one : g.R.Ring.has ring c.one.result ≡ true = subst (λ a. g.R.Ring.has ring a ≡ true) (sym c.one.ensures) (g.met.R.Ring.has_one ring) in
    ap (g.R.Ring.value ring) c.neg.ensures ∙ g.met.R.Ring.value_neg ring c.one.result one
    ∙ opposite_of_one m (g.R.Ring.value ring c.one.result) (g.met.R.Ring.modulus_from ring) (ap (g.R.Ring.value ring) c.one.ensures
    ∙ g.met.R.Ring.value_one ring)
    ∙ ap (sign_number m) (sym c.if-negative.true)
