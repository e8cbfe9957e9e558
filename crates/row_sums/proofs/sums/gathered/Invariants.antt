use Rattle.row_sums.specs.Totals.{total_at}
use Rattle.row_sums.proofs.GatheredRows.{Gathering}
use Rattle.row_sums.proofs.sums.gathered.Given as goal

abbrev pub invariant-loop-number : goal.invariant-loop-number
invariant-loop-number g l =
    Gathering (g.R.Ring.modulus l.ring) (g.R.Ring.has l.ring) (g.R.Ring.value l.ring) g.R.Ring.zero
    (total_at (g.R.Ring.total l.ring) l.sums) l.number l.row
