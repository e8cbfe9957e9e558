use Rattle.std.proofs.Common.{◌≡◌, ◌<◌, ◌++◌, [], length, map, get_or, string_bytes, sym, ap, subst, ◌∙◌, arith}
use Rattle.std.proofs.lemmas.List.{length-map}
use Rattle.std.proofs.Math.ListN.{get_or-map}
use Rattle.page_codec.specs.Bounds.{IsRowData}
use Rattle.page_codec.specs.Places.{AreBelow}
use Rattle.page_rows.specs.Written.{written}
use Rattle.echelon.specs.Lists.{FitsColumns}
use Rattle.echelon.specs.States.{IsRowList}
use Rattle.whole_runs.specs.FileTexts.{row_line}
use Rattle.merge_runs.proofs.MergedLines.{head_line, next_line, row_data, row_bounds}
use Rattle.merge_runs.proofs.texts.merged_text.Goals as goal

pub push_row_line-requires-clause-data : goal.push_row_line-requires-clause-data
push_row_line-requires-clause-data g c =
    let ring = c.args.ring.now in
    let rows = c.args.rows.now.rows in
    let i = c.loop-i.i in
    let inside : i < length rows = omega (arith, c.loop-i-test.true, c.len-i-end.ensures) in
    let list : IsRowList (g.R.Ring.modulus ring) (g.R.Ring.has ring) (g.R.Ring.value ring) g.R.Ring.zero c.args.rows.now.columns rows =
    subst (λ r. IsRowList (g.R.Ring.modulus r) (g.R.Ring.has r) (g.R.Ring.value r) g.R.Ring.zero c.args.rows.now.columns rows) c.requires.ring
    c.row.ensures.list in
    let fits : FitsColumns (g.R.Ring.has ring) g.R.Ring.zero c.args.rows.now.columns (get_or rows i []) = list.fit i inside in
    let reduced = list.reduced in
    subst IsRowData (sym (c.in_ok-row.ensures.written ∙ ap (written (g.R.Ring.value ring)) c.row.ensures.row))
    (row_data g.R.Ring.zero (g.R.Ring.has ring) (g.R.Ring.value ring) (g.met.R.Ring.has_zero ring) (g.met.R.Ring.value_zero ring)
    (g.met.R.Ring.value_injective ring) (g.R.Ring.modulus ring) (g.met.R.Ring.value_below ring) (length c.args.columns.now.list)
    (g.met.R.Ring.modulus_from ring) (g.met.R.Ring.modulus_below ring) (omega (arith, c.len-few.ensures.length, c.len-few.ensures.within))
    (get_or rows i []) fits.is_row fits.in_ring (c.requires.below i inside) fits.some (reduced.one i inside))

pub push_row_line-requires-clause-below : goal.push_row_line-requires-clause-below
push_row_line-requires-clause-below g c =
    let ring = c.args.ring.now in
    let rows = c.args.rows.now.rows in
    let i = c.loop-i.i in
    let inside : i < length rows = omega (arith, c.loop-i-test.true, c.len-i-end.ensures) in
    let list : IsRowList (g.R.Ring.modulus ring) (g.R.Ring.has ring) (g.R.Ring.value ring) g.R.Ring.zero c.args.rows.now.columns rows =
    subst (λ r. IsRowList (g.R.Ring.modulus r) (g.R.Ring.has r) (g.R.Ring.value r) g.R.Ring.zero c.args.rows.now.columns rows) c.requires.ring
    c.row.ensures.list in
    let fits : FitsColumns (g.R.Ring.has ring) g.R.Ring.zero c.args.rows.now.columns (get_or rows i []) = list.fit i inside in
    subst (AreBelow (length c.args.columns.now.list) (g.R.Ring.modulus ring))
    (sym (c.in_ok-row.ensures.written ∙ ap (written (g.R.Ring.value ring)) c.row.ensures.row))
    (row_bounds g.R.Ring.zero (g.R.Ring.has ring) (g.R.Ring.value ring) (g.met.R.Ring.has_zero ring) (g.met.R.Ring.value_zero ring)
    (g.met.R.Ring.value_injective ring) (g.R.Ring.modulus ring) (g.met.R.Ring.value_below ring) (length c.args.columns.now.list)
    (get_or rows i []) fits.is_row fits.in_ring (c.requires.below i inside))

pub loop-i-preserved : goal.loop-i-preserved
loop-i-preserved g c =
    let ring = c.args.ring.now in
    let rows = c.args.rows.now.rows in
    let i = c.loop-i.i in
    let inside : i < length rows = omega (arith, c.loop-i-test.true, c.len-i-end.ensures) in
    let lists = map (written (g.R.Ring.value ring)) rows in
    let count : length lists ≡ length rows = length-map rows (written (g.R.Ring.value ring)) in
    next_line (g.R.Ring.modulus ring) c.args.columns.now.list (head_line (length lists)) (string_bytes c.loop-i.text) (string_bytes c.push_row_line.new.lines)
    lists i (omega (arith, inside, count)) c.loop-i.invariant
    (c.in_ok-push_row_line.ensures
    ∙ ap (λ row. string_bytes c.loop-i.text ++ row_line (g.R.Ring.modulus ring) c.args.columns.now.list row)
    (c.in_ok-row.ensures.written ∙ ap (written (g.R.Ring.value ring)) c.row.ensures.row ∙ sym (get_or-map (written (g.R.Ring.value ring)) rows i [])))
