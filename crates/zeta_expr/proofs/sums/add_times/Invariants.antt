use Rattle.word_sums.proofs.Adding.{Adding}
use Rattle.zeta_expr.proofs.sums.add_times.Given as goal

abbrev pub invariant-loop-word : goal.invariant-loop-word
invariant-loop-word g l =
    Adding g.R.Ring.zero (g.R.Ring.has l.ring) (g.R.Ring.value l.ring) (g.R.Ring.modulus l.ring)
    (g.R.Ring.value l.ring l.c) l.initial.word-iterator l.initial.sum l.sum l.word-iterator
