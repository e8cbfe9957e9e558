use Rattle.std.proofs.Common.{◌+◌}
use Rattle.linear_model.specs.Rows.{combination, SameRow}
use Rattle.sparse_rows.specs.Entries.{AllIn}
use Rattle.echelon.specs.Lists.{entries_of, row_at}
use Rattle.echelon.specs.Offers.{used_at}
use Rattle.table_build.proofs.summing.added.Given as goal

abbrev pub invariant-loop-i : goal.invariant-loop-i
invariant-loop-i g l = record {
  in_ring : AllIn (g.R.Ring.has l.ring) l.sum;
  same : SameRow (g.R.Ring.modulus l.ring) (entries_of (g.R.Ring.value l.ring) l.sum)
      (λ q. entries_of (g.R.Ring.value l.ring) l.start q + combination l.i (row_at (g.R.Ring.value l.ring) l.combinations)
      (used_at (g.R.Ring.value l.ring) l.numbers l.uses) q);
}
