use Rattle.std.proofs.Common.{◌≡◌, ◌+◌, ◌≤◌, ◌++◌, length, reverse}
use Rattle.lyndon_words.proofs.factorise.turned.Given as goal

abbrev pub invariant-loop-word : goal.invariant-loop-word
invariant-loop-word l = record {
  whole : l.words.items ++ reverse l.left.items ≡ reverse l.fn.stack.items;
  capacity : l.words.capacity ≡ 12;
  room : length l.words.items + length l.left.items ≤ 12;
}

abbrev pub decreases-loop-word : goal.decreases-loop-word
decreases-loop-word l = length l.left.items
