use Rattle.lyndon_polys.proofs.EarliestFaults.{Found}
use Rattle.lyndon_polys.proofs.units.first_fault.Given as goal

abbrev pub invariant-loop-i : goal.invariant-loop-i
invariant-loop-i g l = Found (g.R.Ring.modulus l.ring) l.columns l.i l.first
