use Rattle.cert_checker.proofs.PlacingWords.{PlacingWords}
use Rattle.cert_checker.proofs.placed.placed.Given as goal

abbrev pub invariant-loop-word : goal.invariant-loop-word
invariant-loop-word g l =
    PlacingWords (g.R.Ring.has l.ring) (g.R.Ring.value l.ring) l.columns l.initial.word-iterator l.pairs.items l.word-iterator
