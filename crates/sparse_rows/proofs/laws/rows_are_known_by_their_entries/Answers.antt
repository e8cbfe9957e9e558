use Rattle.sparse_rows.proofs.SameRows.{same_row, IsLead-first}
use Rattle.sparse_rows.proofs.laws.rows_are_known_by_their_entries.Goals as goal

pub returns-clause-pairs : goal.returns-clause-pairs
returns-clause-pairs g c = λ ring. same_row g.K.Key.number g.met.K.Key.number_injective g.R.Ring.zero (g.R.Ring.has ring) (g.R.Ring.value ring)
    (g.R.Ring.modulus ring) (g.met.R.Ring.has_zero ring) (g.met.R.Ring.value_zero ring) (g.met.R.Ring.value_injective ring) 0

pub returns-clause-lead : goal.returns-clause-lead
returns-clause-lead g c = λ ring first behind. IsLead-first g.K.Key.number g.met.K.Key.number_injective g.R.Ring.zero (g.R.Ring.has ring)
    (g.R.Ring.value ring) (g.R.Ring.modulus ring) (g.met.R.Ring.has_zero ring) (g.met.R.Ring.value_zero ring)
    (g.met.R.Ring.value_injective ring) 0 first behind (g.met.R.Ring.value_below ring)
