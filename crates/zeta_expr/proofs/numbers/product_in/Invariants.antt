use Rattle.std.proofs.Common.{◌≡◌, ◌*◌, true, drop}
use Rattle.zeta_model.specs.Modular.{Same}
use Rattle.zeta_expr.specs.Meaning.{product_in}
use Rattle.zeta_expr.proofs.numbers.product_in.Given as goal

abbrev pub invariant-loop-factor : goal.invariant-loop-factor
invariant-loop-factor g l = record {
  has : g.R.Ring.has l.ring l.product ≡ true;
  same : Same (g.R.Ring.modulus l.ring) (g.R.Ring.value l.ring l.product * product_in (g.R.Ring.modulus l.ring) (drop l.factor-index l.factors))
      (product_in (g.R.Ring.modulus l.ring) l.factors);
}
