use Rattle.std.proofs.Common.{◌≡◌}
use Rattle.known_sums.specs.Known.{Knows}
use Rattle.table_build.specs.Inner.{CanOffer, HasBlock}
use Rattle.table_build.proofs.block.offer_block.Given as goal

abbrev pub invariant-loop-n : goal.invariant-loop-n
invariant-loop-n g l = record {
  can : CanOffer l.offering.table l.offering.names.items l.offering.kept.ring l.offering.echelon l.n;
  known : Knows (g.R.Ring.modulus l.fn.offering.table.ring) (g.R.Ring.has l.fn.offering.table.ring) (g.R.Ring.value l.fn.offering.table.ring)
      l.fn.offering.table l.offering.echelon.rows l.known;
  table : l.offering.table ≡ l.fn.offering.table;
  names : l.offering.names.items ≡ l.fn.offering.names.items;
  block : HasBlock (g.R.Ring.modulus l.fn.offering.table.ring) (g.R.Ring.has l.fn.offering.table.ring) (g.R.Ring.value l.fn.offering.table.ring)
      l.fn.offering.table.columns l.first l.n l.fn.offering.echelon.numbers l.fn.offering.echelon.rows l.offering.echelon.numbers
      l.offering.echelon.rows l.block.kept.numbers.items l.block.kept.rows.items l.block.uses.items l.block.starts.items;
}
