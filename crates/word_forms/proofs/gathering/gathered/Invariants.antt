use Rattle.word_forms.specs.Inner.{numbers_of}
use Rattle.word_forms.proofs.GatheredRows.{Gathering}
use Rattle.word_forms.proofs.gathering.gathered.Given as goal

abbrev pub invariant-loop-column : goal.invariant-loop-column
invariant-loop-column g l =
    Gathering (g.R.Ring.modulus l.ring) (g.R.Ring.has l.ring) (g.R.Ring.value l.ring) g.R.Ring.zero
    (numbers_of (g.R.Ring.total l.ring) l.sums) l.column l.row
