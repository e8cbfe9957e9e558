use Rattle.std.proofs.Common.{◌-◌, length}
use Rattle.cert_checker.specs.Certified.{named_values}
use Rattle.cert_checker.proofs.Gaining.{Gaining}
use Rattle.cert_checker.proofs.row_check.take_values.Given as goal

abbrev pub invariant-loop-entry : goal.invariant-loop-entry
invariant-loop-entry g l =
    let m = g.R.Ring.modulus l.ring in
    Gaining g.R.Ring.zero (g.R.Ring.has l.ring) (g.R.Ring.value l.ring) m (length l.names) (m - 1) (named_values m l.names)
    l.initial.sum l.initial.rest l.sum l.rest

abbrev pub decreases-loop-entry : goal.decreases-loop-entry
decreases-loop-entry g l = length l.rest
