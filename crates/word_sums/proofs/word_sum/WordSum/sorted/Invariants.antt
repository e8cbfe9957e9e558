use Rattle.std.proofs.Common.{◌≡◌, ◌++◌}
use Rattle.word_sums.proofs.word_sum.WordSum.sorted.Given as goal

abbrev pub invariant-loop-word : goal.invariant-loop-word
invariant-loop-word g l = l.terms.items ++ l.word-iterator ≡ l.initial.word-iterator
