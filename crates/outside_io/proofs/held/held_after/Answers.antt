use Rattle.std.proofs.Common.{sym, ap, ◌∙◌}
use Rattle.outside_io.specs.Inner.{after_change}
use Rattle.outside_io.proofs.Picking.{replay_next}
use Rattle.outside_io.proofs.held.held_after.Goals as goal

pub loop-change-preserved : goal.loop-change-preserved
loop-change-preserved c =
    c.in_ok-apply.ensures ∙ ap (after_change c.change-item.result) c.loop-change.invariant
    ∙ sym (replay_next c.args.start.now c.args.changes.now c.loop-change.change-index c.change-item.result c.loop-change-test.true c.change-item.is)
