use Rattle.share_merge.specs.Inner.{HasOffered}
use Rattle.share_merge.proofs.offering.offered.Given as goal

abbrev pub invariant-loop-t : goal.invariant-loop-t
invariant-loop-t g l =
    HasOffered (g.R.Ring.modulus l.table.ring) (g.R.Ring.has l.table.ring) (g.R.Ring.value l.table.ring) g.R.Ring.zero l.table l.shares l.t l.echelon
