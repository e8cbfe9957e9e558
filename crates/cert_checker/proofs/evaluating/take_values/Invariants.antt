use Rattle.std.proofs.Common.{◌≡◌, ◌-◌, length}
use Rattle.table_model.specs.ListedSpan.{values_of}
use Rattle.cert_checker.specs.Inner.{AreValues}
use Rattle.cert_checker.proofs.SummingPlaces.{Summing}
use Rattle.cert_checker.proofs.evaluating.take_values.Given as goal

abbrev pub invariant-loop-entry : goal.invariant-loop-entry
invariant-loop-entry g l = record {
  ring : l.products.ring ≡ l.ring;
  values : AreValues (g.R.Ring.modulus l.ring) (g.R.Ring.has l.ring) (g.R.Ring.value l.ring) l.columns l.names l.values.items;
  sums : Summing (g.R.Ring.modulus l.ring) (length l.names) (g.R.Ring.modulus l.ring - 1) (g.R.Ring.has l.ring) (g.R.Ring.value l.ring)
      (g.R.Ring.is_sum l.ring) (g.R.Ring.total l.ring) l.columns (values_of (g.R.Ring.modulus l.ring) l.columns) l.initial.sums l.initial.rest l.sums l.rest;
}

abbrev pub decreases-loop-entry : goal.decreases-loop-entry
decreases-loop-entry g l = length l.rest
