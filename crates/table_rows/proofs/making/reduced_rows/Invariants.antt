use Rattle.std.proofs.Common.{◌≡◌}
use Rattle.known_sums.specs.Known.{IsCurrent}
use Rattle.table_rows.specs.Inner.{HasTaken}
use Rattle.table_rows.proofs.making.reduced_rows.Given as goal

abbrev pub invariant-loop-n : goal.invariant-loop-n
invariant-loop-n g l = record {
  taken : HasTaken (g.R.Ring.modulus l.table.ring) (g.R.Ring.has l.table.ring) (g.R.Ring.value l.table.ring) l.table l.n l.offers.echelon l.offers.known;
  current : IsCurrent (g.R.Ring.modulus l.table.ring) (g.R.Ring.has l.table.ring) (g.R.Ring.value l.table.ring) l.table g.R.Ring.zero l.offers.echelon.rows
      l.offers.known;
  kept_ring : l.kept.ring ≡ l.table.ring;
}
