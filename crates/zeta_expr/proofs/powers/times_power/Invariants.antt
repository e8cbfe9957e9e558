use Rattle.word_sums.specs.Sums.{IsSumOf}
use Rattle.zeta_model.specs.Sums.{single, continued}
use Rattle.zeta_expr.specs.Meaning.{Terms, times_power}
use Rattle.zeta_expr.proofs.powers.times_power.Given as goal

abbrev pub invariant-loop-copies : goal.invariant-loop-copies
invariant-loop-copies g l =
    (p : Terms) → IsSumOf g.R.Ring.zero (g.R.Ring.has l.ring) (g.R.Ring.value l.ring) (g.R.Ring.modulus l.ring) (continued single p) l.fn.before
    → IsSumOf g.R.Ring.zero (g.R.Ring.has l.ring) (g.R.Ring.value l.ring) (g.R.Ring.modulus l.ring)
    (continued single (times_power (g.R.Ring.modulus l.ring) l.index l.copies p)) l.product
