use Rattle.page_codec.specs.Inner.{pair_at}
use Rattle.page_codec.proofs.Loop.{goes_on, ends, is_done}
use Rattle.page_codec.proofs.reading.number_pairs_at.Goals as goal

pub returns-in_default : goal.returns-in_default
returns-in_default c = ends (pair_at 4) c.loop.pairs.items c.args.count c.loop.counter c.loop.rest.now _ c.loop-test.true c.in_default.ensures c.loop.invariant

pub loop-preserved : goal.loop-preserved
loop-preserved c = rw c.in_ok-push.ensures.items
    (goes_on (pair_at 4) c.loop.pairs.items c.args.count c.loop.counter c.loop.rest.now c.in-Some.pair c.in-Some.after.now _ c.loop-test.true
    c.in-Some.ensures c.loop.invariant)

pub returns : goal.returns
returns c = is_done (pair_at 4) c.loop.pairs.items c.args.count c.loop.counter c.loop.rest.now _ c.loop-test.false c.loop.invariant
