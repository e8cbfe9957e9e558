use Rattle.echelon.specs.Inner.{numbers_of}
use Rattle.echelon.proofs.Naming.{Naming}
use Rattle.echelon.proofs.offering.named.Given as goal

abbrev pub invariant-loop-i : goal.invariant-loop-i
invariant-loop-i g l =
    Naming (g.R.Ring.has l.ring) (g.R.Ring.value l.ring) g.R.Ring.zero l.numbers (numbers_of (g.R.Ring.value l.ring) l.factors) l.i l.uses
