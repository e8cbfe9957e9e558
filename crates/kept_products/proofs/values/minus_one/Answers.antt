use Rattle.std.proofs.Common.{ℕ, ◌-◌, ◌%◌, ap, ◌∙◌, arith, mod-eq_of_lt}
use Rattle.kept_products.proofs.values.minus_one.Goals as goal

pub returns-clause-value : goal.returns-clause-value
returns-clause-value g c =
    let m : ℕ = g.R.Ring.modulus c.args.ring.now in
    ap (g.R.Ring.value c.args.ring.now) (c.neg.ensures ∙ ap (g.R.Ring.neg c.args.ring.now) c.one.ensures)
    ∙ g.met.R.Ring.value_neg c.args.ring.now (g.R.Ring.one c.args.ring.now) (g.met.R.Ring.has_one c.args.ring.now)
    ∙ ap (λ k. (m - k) % m) (g.met.R.Ring.value_one c.args.ring.now)
    ∙ mod-eq_of_lt (omega (arith, g.met.R.Ring.modulus_from c.args.ring.now))
