use Rattle.std.proofs.Common.{length}
use Rattle.table_checker.proofs.RowsRead.{Reading}
use Rattle.table_checker.proofs.final_rows.push_entries.Given as goal

abbrev pub invariant-loop-entry : goal.invariant-loop-entry
invariant-loop-entry g l =
    Reading g.R.Ring.zero (g.R.Ring.has l.ring) (g.R.Ring.value l.ring) (g.R.Ring.modulus l.ring) l.entries l.initial.finals.rows.items
    l.initial.finals.combinations.items l.finals.rows.items l.finals.combinations.items l.rest

abbrev pub decreases-loop-entry : goal.decreases-loop-entry
decreases-loop-entry g l = length l.rest
