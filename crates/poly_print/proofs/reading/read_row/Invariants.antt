use Rattle.std.proofs.Common.{ℕ, List}
use Rattle.sparse_rows.specs.Entries.{IsBelow, AllIn}
use Rattle.poly_print.specs.Polynomials.{IsTextOf}
use Rattle.poly_print.proofs.ReadRows.{Left}
use Rattle.poly_print.proofs.reading.read_row.Given as goal

abbrev pub invariant-loop-col : goal.invariant-loop-col
invariant-loop-col g l = record {
  below : IsBelow (λ col. col) l.col l.row;
  in_ring : AllIn (g.R.Ring.has l.ring) l.row;
  left : (p : List (ℕ × g.row.R-Elem.Denot)) → IsTextOf g.R.Ring.zero (g.R.Ring.has l.ring) (g.R.Ring.value l.ring) l.columns.list p l.fn.text
      → Left g.R.Ring.zero (g.R.Ring.has l.ring) (g.R.Ring.value l.ring) l.columns.list p l.row l.rest l.col;
}
