use Rattle.lyndon_polys.proofs.Summing.{Summing}
use Rattle.lyndon_polys.proofs.word_rows.row_of_sum.Given as goal

abbrev pub invariant-loop-word : goal.invariant-loop-word
invariant-loop-word g l =
    Summing (g.R.Ring.modulus l.ring) (g.R.Ring.value l.ring l.scale) (g.R.Ring.has l.ring) (g.R.Ring.value l.ring) (g.R.Ring.is_sum l.ring)
    (g.R.Ring.total l.ring) l.columns l.rows l.start l.initial.word-iterator l.sums.items l.coefficient l.waiting l.word-iterator
