use Rattle.std.proofs.Common.{ap, ◌∙◌}
use Rattle.regularise_core.proofs.Signs.{even_sign, odd_sign}
use Rattle.kept_products.proofs.regular.signed.Goals as goal

pub returns-then-j-eq0-clause-value : goal.returns-then-j-eq0-clause-value
returns-then-j-eq0-clause-value g c = even_sign (g.R.Ring.modulus c.args.ring.now) c.args.j (g.R.Ring.value c.args.ring.now c.args.c) c.if-j-eq0.true

pub returns-else-j-eq0-clause-value : goal.returns-else-j-eq0-clause-value
returns-else-j-eq0-clause-value g c =
    odd_sign (g.R.Ring.modulus c.args.ring.now) c.args.j (g.R.Ring.value c.args.ring.now c.args.c) (g.R.Ring.value c.args.ring.now c.neg.result)
    (g.met.R.Ring.value_below c.args.ring.now c.args.c c.requires) c.if-j-eq0.false
    (ap (g.R.Ring.value c.args.ring.now) c.neg.ensures ∙ g.met.R.Ring.value_neg c.args.ring.now c.args.c c.requires)
