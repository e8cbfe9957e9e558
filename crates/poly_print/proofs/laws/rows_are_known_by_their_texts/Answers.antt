use Rattle.std.proofs.Common.{ℕ, ◌<◌, ◌^◌, arith}
use Rattle.poly_print.proofs.TextLaws.{rows-one, rows-residues}
use Rattle.poly_print.proofs.laws.rows_are_known_by_their_texts.Goals as goal

below : (m : ℕ) → m < 2 ^ 63 → m < 2 ^ 64
below m h = omega arith

pub returns-clause-rows : goal.returns-clause-rows
returns-clause-rows g c = λ ring. rows-one g.R.Ring.zero (g.R.Ring.has ring) (g.R.Ring.value ring) (g.R.Ring.modulus ring) (below (g.R.Ring.modulus ring)
    (g.met.R.Ring.modulus_below ring)) (g.met.R.Ring.value_zero ring) (g.met.R.Ring.has_zero ring) (g.met.R.Ring.value_below ring)
    (g.met.R.Ring.value_injective ring)

pub returns-clause-residues : goal.returns-clause-residues
returns-clause-residues g c = λ ring. rows-residues g.R.Ring.zero (g.R.Ring.has ring) (g.R.Ring.value ring) (g.R.Ring.modulus ring) (below
    (g.R.Ring.modulus ring) (g.met.R.Ring.modulus_below ring)) (g.met.R.Ring.value_zero ring) (g.met.R.Ring.has_zero ring) (g.met.R.Ring.value_below ring)
    (g.met.R.Ring.value_injective ring)
