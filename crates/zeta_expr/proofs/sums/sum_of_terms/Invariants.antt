use Rattle.std.proofs.Common.{drop}
use Rattle.zeta_expr.proofs.TotalLemmas.{Adding}
use Rattle.zeta_expr.proofs.sums.sum_of_terms.Given as goal

abbrev pub invariant-loop-term : goal.invariant-loop-term
invariant-loop-term g l =
    Adding g.R.Ring.zero (g.R.Ring.has l.ring) (g.R.Ring.value l.ring) (g.R.Ring.modulus l.ring) l.sum (drop l.term-index l.terms) l.terms
