use Rattle.std.proofs.Common.{◌≡◌, ◌++◌, drop}
use Rattle.lyndon_words.specs.Lyndon.{joined}
use Rattle.lyndon_words.proofs.words.join.Given as goal

abbrev pub invariant-loop-word : goal.invariant-loop-word
invariant-loop-word l = l.whole ++ joined (drop l.word-index l.words) ≡ joined l.words
