use Rattle.std.proofs.Common.{refl, arith}
use Rattle.page_codec.proofs.SameParams.{differ, one_more, all_same}
use Rattle.share_core.proofs.same_params.are_same_words.Goals as goal

pub returns-then-ne : goal.returns-then-ne
returns-then-ne c = (
  λ t. absurd (cc t),
  λ e. absurd (differ c.args.a.now c.args.b.now c.loop-i.i c.at.result c.at-in-loop-i.result c.ne.result c.at.ensures c.at-in-loop-i.ensures c.ne.ensures
      c.if-ne.true e),
)

pub loop-i-preserved : goal.loop-i-preserved
loop-i-preserved c = record {
  so_far = one_more c.args.a.now c.args.b.now c.loop-i.i c.at.result c.at-in-loop-i.result c.ne.result c.at.ensures c.at-in-loop-i.ensures c.ne.ensures
      c.if-ne.false c.loop-i.invariant.so_far;
  long = c.loop-i.invariant.long;
}

pub returns : goal.returns
returns c = (
  λ t. all_same c.args.a.now c.args.b.now c.loop-i.i (omega (arith, c.len-i-end.ensures.length, c.loop-i-test.false))
      (omega (arith, c.len-i-end.ensures.length, c.loop-i-test.false, c.loop-i.invariant.long)) c.loop-i.invariant.so_far,
  λ e. refl,
)
