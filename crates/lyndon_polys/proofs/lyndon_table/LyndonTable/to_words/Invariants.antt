use Rattle.std.proofs.Common.{length}
use Rattle.lyndon_polys.proofs.Converting.{Converting}
use Rattle.lyndon_polys.proofs.lyndon_table.LyndonTable.to_words.Given as goal

abbrev pub invariant-loop-entry : goal.invariant-loop-entry
invariant-loop-entry g l =
    Converting g.R.Ring.zero (g.R.Ring.has l.self-inside.ring) (g.R.Ring.value l.self-inside.ring)
    (g.R.Ring.modulus l.self-inside.ring) l.self-inside.columns l.initial.rest l.sum l.rest

abbrev pub decreases-loop-entry : goal.decreases-loop-entry
decreases-loop-entry g l = length l.rest
