use Rattle.std.proofs.Common.{◌≡◌, length}
use Rattle.quasi_product.specs.Inner.{IsRow}
use Rattle.quasi_product.proofs.rows.next_row.Given as goal

abbrev pub invariant-loop-i : goal.invariant-loop-i
invariant-loop-i g l = (length l.row.items ≡ l._i)
    × IsRow (λ cell. cell.items) (g.R.Ring.has l.ring) (g.R.Ring.value l.ring) (g.R.Ring.modulus l.ring)
    (g.R.Ring.value l.ring l.c) g.L.Letters.alphabet l.u.word l.suffixes l.row.items
