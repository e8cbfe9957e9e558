use Rattle.std.proofs.Common.{ℕ, ◌<◌}
use Rattle.echelon.specs.Inner.{LeadsAt}
use Rattle.echelon.proofs.quick.all_lead.Given as goal

abbrev pub invariant-loop-i : goal.invariant-loop-i
invariant-loop-i g l = (k : ℕ) → k < l.i → LeadsAt (g.R.Ring.value l.ring) g.R.Ring.zero l.rows k
