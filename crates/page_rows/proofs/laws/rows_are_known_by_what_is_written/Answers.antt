use Rattle.page_rows.proofs.Writing.{written-one, entry_of-written, bound-written, residues-written}
use Rattle.page_rows.proofs.laws.rows_are_known_by_what_is_written.Goals as goal

pub returns-clause-one : goal.returns-clause-one
returns-clause-one g c = λ ring. written-one g.K.Key.number g.R.Ring.zero (g.R.Ring.has ring) (g.R.Ring.value ring)
    (g.met.R.Ring.has_zero ring) (g.met.R.Ring.value_zero ring) (g.met.R.Ring.value_injective ring)

pub returns-clause-entries : goal.returns-clause-entries
returns-clause-entries g c = λ ring. entry_of-written g.K.Key.number g.R.Ring.zero (g.R.Ring.has ring) (g.R.Ring.value ring)

pub returns-clause-bound : goal.returns-clause-bound
returns-clause-bound g c = λ ring. bound-written g.K.Key.number g.R.Ring.zero (g.R.Ring.has ring) (g.R.Ring.value ring)

pub returns-clause-residues : goal.returns-clause-residues
returns-clause-residues g c = λ ring. residues-written g.K.Key.number g.R.Ring.zero (g.R.Ring.has ring) (g.R.Ring.value ring)
    (g.met.R.Ring.has_zero ring) (g.met.R.Ring.value_zero ring) (g.met.R.Ring.value_injective ring) (g.R.Ring.modulus ring) (g.met.R.Ring.value_below ring)
