use Rattle.std.proofs.Common.{ap, ◌∙◌, arith, length}
use Rattle.lyndon_words.proofs.Products.{product_of-step, length-put}
use Rattle.lyndon_words.proofs.monomial.product.Goals as goal

pub loop-word-2-preserved : goal.loop-word-2-preserved
loop-word-2-preserved c = record {
  whole = product_of-step c.args.a.now c.loop-word-2.factors.items c.put_in_place.new.factors.items c.loop-word-2.word-index c.word-item-in-loop-word-2.result (omega arith) c.word-item-in-loop-word-2.is c.put_in_place.ensures.items ∙ c.loop-word-2.invariant.whole;
  capacity = c.put_in_place.ensures.capacity ∙ c.loop-word-2.invariant.capacity;
  room = omega (arith, ap length c.put_in_place.ensures.items, length-put c.word-item-in-loop-word-2.result c.loop-word-2.factors.items);
}
