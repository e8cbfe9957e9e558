use Rattle.std.proofs.Common.{◌≡◌, length}
use Rattle.std.specs.Prelude.{◌↔◌}
use Rattle.sparse_rows.specs.Entries.{AllIn}
use Rattle.page_rows.specs.Written.{written}
use Rattle.table_build.proofs.rereading.are_written.Given as goal

abbrev pub invariant-loop-entry : goal.invariant-loop-entry
invariant-loop-entry g l = record {
  in_ring : AllIn (g.R.Ring.has l.ring) l.row_left;
  same : (l.pairs_left ≡ written (g.R.Ring.value l.ring) l.row_left) ↔ (l.pairs ≡ written (g.R.Ring.value l.ring) l.entries);
}

abbrev pub decreases-loop-entry : goal.decreases-loop-entry
decreases-loop-entry g l = length l.row_left
