use Rattle.std.proofs.Common.{[], ◌∷◌, drop}
use Rattle.zeta_expr.specs.Meaning.{times_zetas}
use Rattle.zeta_expr.proofs.GivingLemmas.{Ahead}
use Rattle.zeta_expr.proofs.sums.zetas_product.Given as goal

abbrev pub invariant-loop-factor : goal.invariant-loop-factor
invariant-loop-factor g l =
    Ahead g.R.Ring.zero (g.R.Ring.has l.ring) (g.R.Ring.value l.ring) (g.R.Ring.modulus l.ring) l.product (drop l.factor-index l.factors)
    (times_zetas (g.R.Ring.modulus l.ring) l.factors ((1, []) ∷ []))
