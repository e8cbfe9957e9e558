use Rattle.dual_reply.proofs.FoldedTerms.{folded_more}
use Rattle.dual_reply.proofs.fold.folded_sum.Goals as goal

pub loop-term-preserved : goal.loop-term-preserved
loop-term-preserved g c = record {
  in_ring = c.add_term.ensures.in_ring;
  value = λ t.
      folded_more (g.R.Ring.modulus c.args.ring.now) c.args.terms.now c.loop-term.term-index c.term-item.result t c.representative.result _ _ _
      c.loop-term-test.true c.term-item.is c.representative.ensures c.signed_one-one.ensures.value (c.loop-term.invariant.value t)
      (c.in_ok-add_term.ensures.ok t);
}
