use Rattle.page_codec.specs.Inner.{forward_entry_at}
use Rattle.page_codec.proofs.Loop.{goes_on, ends, is_done}
use Rattle.page_codec.proofs.reading.forward_entries_at.Goals as goal

pub returns-in_default : goal.returns-in_default
returns-in_default c = ends forward_entry_at c.loop.entries.items c.args.count c.loop.counter c.loop.rest.now _ c.loop-test.true
    (rw c.in_default.is at c.in_ok-entry.ensures) c.loop.invariant

pub loop-preserved : goal.loop-preserved
loop-preserved c = rw c.in_ok-push.ensures.items
    (goes_on forward_entry_at c.loop.entries.items c.args.count c.loop.counter c.loop.rest.now c.in-Some.entry c.in-Some.after.now _ c.loop-test.true
    (rw c.in-Some.is at c.in_ok-entry.ensures) c.loop.invariant)

pub returns : goal.returns
returns c = is_done forward_entry_at c.loop.entries.items c.args.count c.loop.counter c.loop.rest.now _ c.loop-test.false c.loop.invariant
