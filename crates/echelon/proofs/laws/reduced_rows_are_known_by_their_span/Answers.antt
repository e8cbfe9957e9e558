use Rattle.echelon.proofs.Histories.{same_reduced}
use Rattle.echelon.proofs.laws.reduced_rows_are_known_by_their_span.Goals as goal

pub returns : goal.returns
returns g c = λ ring. same_reduced (g.R.Ring.modulus ring) (g.R.Ring.has ring) (g.R.Ring.value ring) g.R.Ring.zero (g.met.R.Ring.has_zero ring)
    (g.met.R.Ring.value_zero ring) (g.met.R.Ring.value_injective ring) (g.met.R.Ring.value_below ring) (g.met.R.Ring.modulus_from ring)
