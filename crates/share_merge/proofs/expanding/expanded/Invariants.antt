use Rattle.std.proofs.Common.{length}
use Rattle.share_merge.proofs.ExpandedTurns.{IsExpanding}
use Rattle.share_merge.proofs.expanding.expanded.Given as goal

abbrev pub invariant-loop-turn : goal.invariant-loop-turn
invariant-loop-turn g l =
    let ring = l.table.ring in
    IsExpanding (g.R.Ring.modulus ring) (g.R.Ring.has ring) (g.R.Ring.value ring) l.shares (g.R.Ring.is_sum ring) (g.R.Ring.total ring) l.relations l.turns
    l.rest l.sum

abbrev pub decreases-loop-turn : goal.decreases-loop-turn
decreases-loop-turn g l = length l.rest
