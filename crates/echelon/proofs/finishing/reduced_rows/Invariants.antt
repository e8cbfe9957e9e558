use Rattle.echelon.specs.Inner.{IsReducing}
use Rattle.echelon.proofs.finishing.reduced_rows.Given as goal

abbrev pub invariant-loop-column : goal.invariant-loop-column
invariant-loop-column g l =
    IsReducing (g.R.Ring.modulus l.ring) (g.R.Ring.has l.ring)
    (g.R.Ring.value l.ring) g.R.Ring.zero l.columns l.numbers l.rows l.column l.reduced.items l.all_uses.items
