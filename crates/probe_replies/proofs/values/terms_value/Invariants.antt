use Rattle.std.proofs.Common.{◌≡◌, ◌+◌, true, drop}
use Rattle.zeta_model.specs.Modular.{Same}
use Rattle.probe_replies.specs.Values.{terms_value}
use Rattle.probe_replies.proofs.values.terms_value.Given as goal

abbrev pub invariant-loop-term : goal.invariant-loop-term
invariant-loop-term g l = record {
  has : g.R.Ring.has l.ring l.sum ≡ true;
  same : Same (g.R.Ring.modulus l.ring)
      (g.R.Ring.value l.ring l.sum + terms_value (g.R.Ring.modulus l.ring) l.sums.1 (drop l.term-index l.terms))
      (terms_value (g.R.Ring.modulus l.ring) l.sums.1 l.terms);
}
