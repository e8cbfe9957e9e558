use Rattle.quasi_product.proofs.MergeLemmas.{Merging-next, Merging-end}
use Rattle.quasi_product.proofs.merging.add_merged.Goals as goal

pub loop-term-preserved : goal.loop-term-preserved
loop-term-preserved g c =
    Merging-next (g.R.Ring.has c.args.ring.now) (g.R.Ring.value c.args.ring.now)
    (g.R.Ring.modulus c.args.ring.now) c.args.front c.args.front c.args.left.now c.args.right.now c.loop-term.terms.items c.loop-term.xs.now
    c.loop-term.ys.now c.in-Some.term c.push.new.self.items c.in-Some.xs_rest.now c.in-Some.ys_rest.now
    c.loop-term.invariant c.in-Some.ensures.taken c.in_ok-push.ensures.items

pub returns : goal.returns
returns g c = record {
  ok = Merging-end (g.R.Ring.has c.args.ring.now) (g.R.Ring.value c.args.ring.now)
      (g.R.Ring.modulus c.args.ring.now) c.args.front c.args.front c.args.left.now c.args.right.now c.loop-term.terms.items c.loop-term.xs.now
      c.loop-term.ys.now
      c.loop-term.invariant c.in_default.ensures.none.0 c.in_default.ensures.none.1;
}
