use Rattle.std.proofs.Common.{sym, ◌∙◌}
use Rattle.zeta_expr.proofs.ScanLemmas.{bottom_here, bottom_later}
use Rattle.zeta_expr.proofs.numbers.first_without_inverse.Goals as goal

pub returns-in-Some : goal.returns-in-Some
returns-in-Some g c =
    bottom_here (g.R.Ring.modulus c.args.ring.now) c.args.terms.now c.loop-term.term-index c.term-item.result c.loop-term-test.true c.term-item.is
    c.in-Some.number
    (sym c.in-Some.is ∙ c.lacking_in.ensures) c.loop-term.invariant

pub loop-term-preserved : goal.loop-term-preserved
loop-term-preserved g c =
    bottom_later (g.R.Ring.modulus c.args.ring.now) c.args.terms.now c.loop-term.term-index c.term-item.result c.loop-term-test.true c.term-item.is
    (sym c.in_default.is ∙ c.lacking_in.ensures) c.loop-term.invariant
