use Rattle.std.proofs.Common.{length}
use Rattle.std.specs.Prelude.{◌↔◌, All}
use Rattle.cert_checker.proofs.Zeros.{AllZero}
use Rattle.cert_checker.proofs.gathering.all_zero.Given as goal

abbrev pub invariant-loop-sum : goal.invariant-loop-sum
invariant-loop-sum g l = record {
  all : All (g.R.Ring.is_sum l.ring) l.rest;
  same : AllZero (g.R.Ring.modulus l.ring) (g.R.Ring.total l.ring) l.rest ↔ AllZero (g.R.Ring.modulus l.ring) (g.R.Ring.total l.ring) l.initial.rest;
}

abbrev pub decreases-loop-sum : goal.decreases-loop-sum
decreases-loop-sum g l = length l.rest
