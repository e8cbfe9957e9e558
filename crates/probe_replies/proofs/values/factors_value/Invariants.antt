use Rattle.std.proofs.Common.{◌≡◌, ◌*◌, true, drop}
use Rattle.zeta_model.specs.Modular.{Same}
use Rattle.probe_replies.specs.Values.{factors_value}
use Rattle.probe_replies.proofs.values.factors_value.Given as goal

abbrev pub invariant-loop-factor : goal.invariant-loop-factor
invariant-loop-factor g l = record {
  has : g.R.Ring.has l.ring l.product ≡ true;
  same : Same (g.R.Ring.modulus l.ring)
      (g.R.Ring.value l.ring l.product * factors_value (g.R.Ring.modulus l.ring) l.sums.1 (drop l.factor-index l.factors))
      (factors_value (g.R.Ring.modulus l.ring) l.sums.1 l.factors);
}
