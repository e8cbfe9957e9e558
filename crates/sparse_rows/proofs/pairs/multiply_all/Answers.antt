use Rattle.std.proofs.Common.{◌≡◌, ◌<◌, length, arith, sym, ap, ◌∙◌, slice_index_or}
use Rattle.sparse_rows.proofs.Multiplying.{has_next, changed_next, changed_whole}
use Rattle.sparse_rows.proofs.pairs.multiply_all.Goals as goal

pub mul-pair-requires-clause-has_b : goal.mul-pair-requires-clause-has_b
mul-pair-requires-clause-has_b g c =
    let inside : c.loop-pair.pair-index < length c.args.pairs.now.items =
    omega (arith, c.loop-pair-test.true, ap length c.deref_mut-pair-items.ensures.value) in
    has_next (g.R.Ring.has c.args.ring.now)
    (λ e. (e.0, g.R.Ring.mul c.args.ring.now c.args.c e.1)) c.args.pairs.now.items c.loop-pair.pair-items c.loop-pair.pair-index c.pair-item.result c.loop-pair.invariant inside c.requires.in_ring

pub loop-pair-preserved : goal.loop-pair-preserved
loop-pair-preserved g c =
    let inside : c.loop-pair.pair-index < length c.args.pairs.now.items =
    omega (arith, c.loop-pair-test.true, ap length c.deref_mut-pair-items.ensures.value) in
    changed_next (λ e. (e.0, g.R.Ring.mul c.args.ring.now c.args.c e.1)) c.args.pairs.now.items c.loop-pair.pair-items c.loop-pair.pair-index c.pair-item.result _ c.loop-pair.invariant inside
    (ap (λ a. ((slice_index_or c.loop-pair.pair-items c.loop-pair.pair-index c.pair-item.result).0, a)) c.mul-pair.ensures)

pub returns : goal.returns
returns g c =
    let all : c.loop-pair.pair-index ≡ length c.args.pairs.now.items =
    omega (arith, c.loop-pair-test.false, c.loop-pair.auto.pair-index-end, ap length c.deref_mut-pair-items.ensures.value) in
    changed_whole (λ e. (e.0, g.R.Ring.mul c.args.ring.now c.args.c e.1)) c.args.pairs.now.items c.loop-pair.pair-items c.loop-pair.pair-index c.args.pairs.now.len c.loop-pair.invariant all
    (sym c.deref_mut-pair-items.ensures.len ∙ ap length c.deref_mut-pair-items.ensures.value)
