use Rattle.std.proofs.Common.{ℕ, ◌<◌, List, length, sym, ap, subst, ◌∙◌, arith}
use Rattle.sparse_rows.specs.Entries.{IsRow, IsBelow, AllIn}
use Rattle.column_order.specs.Columns.{ColumnList}
use Rattle.linear_model.specs.Reduced.{IsNormalForm}
use Rattle.echelon.specs.Lists.{entries_of, lead_at, row_at}
use Rattle.poly_print.specs.Polynomials.{row_text, residue_pairs, residues_text}
use Rattle.poly_print.proofs.TextLaws.{rows-residues}
use Rattle.table_rewrite.proofs.RowsLeft.{left_below, own_residues}
use Rattle.table_rewrite.proofs.rewrite.polynomial.Goals as goal

pub print-requires-clause-below : goal.print-requires-clause-below
print-requires-clause-below g c =
    let r = g.met.R.Ring in
    let ring = c.args.table.now.ring in
    let left = c.in_ok-left.left in
    let row = c.in_ok-row.row in
    let rows = c.args.rows.now.rows in
    let is_left = subst (λ (t : g.row.R.Denot). IsNormalForm (g.R.Ring.modulus t) (length rows) (lead_at rows) (row_at (g.R.Ring.value t) rows)
    (entries_of (g.R.Ring.value t) row) (entries_of (g.R.Ring.value t) left)) c.ring.ensures c.in_ok-left.ensures.ok in
    let in_ring = subst (λ (t : g.row.R.Denot). AllIn (g.R.Ring.has t) left) c.ring.ensures c.in_ok-left.ensures.in_ring in
    subst (λ (columns : ColumnList). IsBelow (λ k. k) (length columns.list) left) (sym c.columns.ensures.columns)
    (left_below (g.R.Ring.value ring) (g.R.Ring.has ring) g.R.Ring.zero (g.R.Ring.modulus ring) (r.has_zero ring) (r.value_zero ring) (r.value_below ring)
    (r.value_injective ring) (length c.args.table.now.columns.list) rows (entries_of (g.R.Ring.value ring) row) left (omega (arith, r.modulus_from ring))
    c.requires.columns c.in_ok-row.ensures.cols.over is_left
    (subst (λ (es : List (ℕ × g.row.R-Elem.Denot)). IsRow (λ k. k) g.R.Ring.zero 0 es) c.left.view_is c.left.invariant) in_ring)

pub returns : goal.returns
returns g c =
    let r = g.met.R.Ring in
    let ring = c.args.table.now.ring in
    let left = c.in_ok-left.left in
    let row = c.in_ok-row.row in
    let rows = c.args.rows.now.rows in
    let columns = c.args.table.now.columns in
    let v = g.R.Ring.value ring in
    let m = g.R.Ring.modulus ring in
    let pos : 0 < m = omega (arith, r.modulus_from ring) in
    let is_left = subst (λ (t : g.row.R.Denot). IsNormalForm (g.R.Ring.modulus t) (length rows) (lead_at rows) (row_at (g.R.Ring.value t) rows)
    (entries_of (g.R.Ring.value t) row) (entries_of (g.R.Ring.value t) left)) c.ring.ensures c.in_ok-left.ensures.ok in
    let in_ring = subst (λ (t : g.row.R.Denot). AllIn (g.R.Ring.has t) left) c.ring.ensures c.in_ok-left.ensures.in_ring in
    let is_row = subst (λ (es : List (ℕ × g.row.R-Elem.Denot)). IsRow (λ k. k) g.R.Ring.zero 0 es) c.left.view_is c.left.invariant in
    let below = left_below v (g.R.Ring.has ring) g.R.Ring.zero m (r.has_zero ring) (r.value_zero ring) (r.value_below ring)
    (r.value_injective ring) (length columns.list) rows (entries_of v row) left pos c.requires.columns c.in_ok-row.ensures.cols.over is_left is_row in_ring in
    record {
      rest = entries_of v left;
      polynomial = record { cols = entries_of v row; is_cols = c.in_ok-row.ensures.cols; left = is_left };
      prints = c.new.ensures ∙ c.in_ok-print.ensures
          ∙ ap (λ (cs : ColumnList). row_text cs.list (residue_pairs (λ k. k) (g.R.Ring.value c.ring-2.result.now) left)) c.columns.ensures.columns
          ∙ ap (λ (t : g.row.R.Denot). row_text columns.list (residue_pairs (λ k. k) (g.R.Ring.value t) left)) c.ring-2.ensures
          ∙ rows-residues g.R.Ring.zero (g.R.Ring.has ring) v m (omega (arith, r.modulus_below ring)) (r.value_zero ring) (r.has_zero ring) (r.value_below ring)
          (r.value_injective ring) columns left is_row below in_ring
          ∙ ap (residues_text columns.list) (own_residues v (g.R.Ring.has ring) g.R.Ring.zero m (r.has_zero ring) (r.value_zero ring) (r.value_below ring)
          (r.value_injective ring) left pos is_row in_ring);
    }
