use Rattle.std.proofs.Common.{◌≡◌, None}
use Rattle.std.specs.Map.{keys_of}
use Rattle.word_sums.proofs.LeastWords.{least_from}
use Rattle.word_sums.proofs.word_sum.WordSum.least_failing.Given as goal

abbrev pub invariant-loop-word : goal.invariant-loop-word
invariant-loop-word g l =
    let passes = g.T.WordTest.passes l.test in
    least_from passes l.least (keys_of l.word-iterator) ≡ least_from passes None (keys_of l.initial.word-iterator)
