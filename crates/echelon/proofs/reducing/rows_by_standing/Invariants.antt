use Rattle.echelon.specs.Inner.{AreFound}
use Rattle.echelon.proofs.reducing.rows_by_standing.Given as goal

abbrev pub invariant-loop-column : goal.invariant-loop-column
invariant-loop-column g l = AreFound (g.R.Ring.modulus l.ring) (g.R.Ring.has l.ring) (g.R.Ring.value l.ring) l.columns l.rows l.column l.made.items
