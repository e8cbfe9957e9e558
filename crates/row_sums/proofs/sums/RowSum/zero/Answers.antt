use Rattle.row_sums.proofs.TotalLemmas.{zeros_filled}
use Rattle.row_sums.proofs.sums.RowSum.zero.Goals as goal

pub returns-clause-zero : goal.returns-clause-zero
returns-clause-zero g c =
    zeros_filled (g.R.Ring.total c.args.ring.now) _ _ _ _ _ c.new-accumulators.ensures.items c.in_ok-resize.ensures.items c.start_sum.ensures.total
