use Rattle.std.proofs.Common.{◌≡◌, ◌+◌, length, take, drop}
use Rattle.lyndon_words.specs.Monomials.{product_of}
use Rattle.lyndon_words.proofs.monomial.product.Given as goal

abbrev pub invariant-loop-word : goal.invariant-loop-word
invariant-loop-word l = record {
  copied : l.factors.items ≡ take l.word-index l.b;
  capacity : l.factors.capacity ≡ 12;
}

abbrev pub invariant-loop-word-2 : goal.invariant-loop-word-2
invariant-loop-word-2 l = record {
  whole : product_of (drop l.word-index l.a) l.factors.items ≡ product_of l.a l.b;
  capacity : l.factors.capacity ≡ 12;
  room : length l.factors.items ≡ l.word-index + length l.b;
}
