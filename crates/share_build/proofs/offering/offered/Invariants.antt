use Rattle.std.proofs.Common.{◌≡◌}
use Rattle.share_build.specs.Inner.{HasOffered}
use Rattle.share_build.proofs.offering.offered.Given as goal

abbrev pub invariant-loop-k : goal.invariant-loop-k
invariant-loop-k g l = record {
  offered : HasOffered (g.R.Ring.modulus l.table.ring) (g.R.Ring.has l.table.ring) (g.R.Ring.value l.table.ring) g.R.Ring.zero l.table l.id.index l.id.of l.k
      l.echelon;
  kept_ring : l.kept.ring ≡ l.table.ring;
}
