use Rattle.lyndon_polys.proofs.MoreRows.{Rows}
use Rattle.lyndon_polys.proofs.word_rows.word_rows.Given as goal

abbrev pub invariant-loop-i : goal.invariant-loop-i
invariant-loop-i g l = Rows (g.R.Ring.modulus l.ring) (g.R.Ring.has l.ring) (g.R.Ring.value l.ring) l.columns l.words.items l.i l.rows
