use Rattle.std.proofs.Common.{◌+◌}
use Rattle.page_codec.specs.Bounds.{IsForwardEntry}
use Rattle.page_codec.proofs.Chains.{chain_on, drop_item}
use Rattle.page_codec.proofs.bounds.are_forward.Goals as goal

pub loop-entry-preserved : goal.loop-entry-preserved
loop-entry-preserved c =
    chain_on (λ low e. IsForwardEntry low c.args.high e)
    (λ low e. e.number + 1) _ c.loop-entry.low c.args.entries.now c.loop-entry.entry-index c.loop-entry.invariant c.entry-item.result
    (drop_item c.args.entries.now c.loop-entry.entry-index c.entry-item.result c.loop-entry-test.true c.entry-item.is)
    (c.is_forward_entry.ensures.0 c.if-not-is_forward_entry.false)
