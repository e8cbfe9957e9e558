use Rattle.std.proofs.Common.{below_more}
use Rattle.share_merge.specs.Turns.{HasIndex}
use Rattle.share_core.proofs.lists.has_all.Goals as goal

pub loop-index-preserved : goal.loop-index-preserved
loop-index-preserved g c =
    below_more (HasIndex c.args.shares.now) c.loop-index.index c.loop-index.invariant (c.has_index.ensures.0 c.if-not-has_index.false)
