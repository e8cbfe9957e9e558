use Rattle.std.proofs.Common.{◌≡◌, ◌++◌, length}
use Rattle.sparse_rows.specs.Entries.{AllIn}
use Rattle.page_rows.specs.Written.{written}
use Rattle.page_rows.proofs.rows.residues_of.Given as goal

abbrev pub invariant-loop-entry : goal.invariant-loop-entry
invariant-loop-entry g l = record {
  in_ring : AllIn (g.R.Ring.has l.ring) l.rest;
  joined : l.pairs.items ++ written (g.R.Ring.value l.ring) l.rest ≡ written (g.R.Ring.value l.ring) l.initial.rest;
}

abbrev pub decreases-loop-entry : goal.decreases-loop-entry
decreases-loop-entry g l = length l.rest
