use Rattle.echelon.specs.Lists.{row_at}
use Rattle.word_forms.proofs.PlacedWords.{Placing}
use Rattle.word_forms.proofs.placing.add_forms.Given as goal

abbrev pub invariant-loop-word : goal.invariant-loop-word
invariant-loop-word g l =
    Placing (g.R.Ring.modulus l.ring) (g.R.Ring.has l.ring) (g.R.Ring.value l.ring) (g.R.Ring.is_sum l.ring) (g.R.Ring.total l.ring) l.columns.list
    (row_at (g.R.Ring.value l.ring) l.forms) l.initial.sums l.initial.word-iterator l.sums l.word-iterator
