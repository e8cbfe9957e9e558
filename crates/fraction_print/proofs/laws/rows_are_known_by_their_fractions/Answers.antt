use Rattle.std.proofs.Common.{ℕ, ◌<◌, ◌^◌, arith}
use Rattle.fraction_print.proofs.TextLaws.{some_text, elements_same}
use Rattle.fraction_print.proofs.laws.rows_are_known_by_their_fractions.Goals as goal

below : (m : ℕ) → m < 2 ^ 63 → m < 2 ^ 64
below m h = omega arith

pub returns-clause-rows : goal.returns-clause-rows
returns-clause-rows g c = λ ring. elements_same g.R.Ring.zero (g.R.Ring.has ring) (g.R.Ring.value ring) (g.R.Ring.modulus ring) (g.met.R.Ring.modulus_from ring)
    (below (g.R.Ring.modulus ring) (g.met.R.Ring.modulus_below ring)) (g.met.R.Ring.value_zero ring) (g.met.R.Ring.has_zero ring)
    (g.met.R.Ring.value_below ring) (g.met.R.Ring.value_injective ring)

pub returns-clause-some : goal.returns-clause-some
returns-clause-some g c = λ ring columns p. some_text (g.R.Ring.modulus ring) columns _ (g.met.R.Ring.modulus_from ring)
