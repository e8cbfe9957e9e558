use Rattle.std.proofs.Common.{arith}
use Rattle.sparse_rows.proofs.SameRows.{same_row}
use Rattle.lyndon_polys.proofs.Converting.{sum_of_row, row_of_words}
use Rattle.lyndon_polys.proofs.laws.conversion_is_one_to_one.Goals as goal

pub returns-clause-sum : goal.returns-clause-sum
returns-clause-sum g c = λ ring columns terms row are all h t.
    sum_of_row g.R.Ring.zero (g.R.Ring.has ring) (g.R.Ring.value ring) (g.R.Ring.modulus ring) (omega (arith, g.met.R.Ring.modulus_from ring))
    (g.met.R.Ring.value_below ring) columns terms row are all h t

pub returns-clause-row : goal.returns-clause-row
returns-clause-row g c = λ ring columns row other table converts is_row row_in over is_other other_in h.
    let r = g.met.R.Ring in
    same_row (λ k. k) (λ a b e. e) g.R.Ring.zero (g.R.Ring.has ring) (g.R.Ring.value ring) (g.R.Ring.modulus ring) (r.has_zero ring) (r.value_zero ring)
    (r.value_injective ring) 0 other row is_other is_row other_in row_in
    (row_of_words g.R.Ring.zero (g.R.Ring.has ring) (g.R.Ring.value ring) (g.R.Ring.modulus ring) (omega (arith, r.modulus_from ring))
    (r.value_below ring) columns row other (r.value_injective ring) table converts is_row row_in over is_other other_in h)
