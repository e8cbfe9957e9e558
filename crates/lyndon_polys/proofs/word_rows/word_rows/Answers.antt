use Rattle.std.proofs.Common.{◌≡◌, ◌<◌, length, sym, subst, ◌∙◌, arith}
use Rattle.std.proofs.lemmas.List.{get_or_default}
use Rattle.zeta_model.specs.Sums.{single}
use Rattle.lyndon_polys.specs.Inner.{IsRowOf}
use Rattle.lyndon_polys.proofs.MoreRows.{are_rows, one_row_more, all_rows, lesser_known}
use Rattle.lyndon_polys.proofs.word_rows.word_rows.Goals as goal

pub word_row-requires-clause-rows : goal.word_row-requires-clause-rows
word_row-requires-clause-rows g c =
    let ring = c.args.ring.now in
    let words = c.in_ok-words.words.items in
    let inside : c.loop-i.i < length words = omega (arith, c.loop-i-test.true, c.len-i-end.ensures) in
    are_rows (g.R.Ring.modulus ring) (g.R.Ring.has ring) (g.R.Ring.value ring) c.args.columns.now words c.in_ok-words.ensures.sorted c.loop-i.i c.loop-i.rows
    (omega (arith, inside)) c.loop-i.invariant

pub word_row-requires-clause-lesser : goal.word_row-requires-clause-lesser
word_row-requires-clause-lesser g c t is before =
    let ring = c.args.ring.now in
    let words = c.in_ok-words.words.items in
    let inside : c.loop-i.i < length words = omega (arith, c.loop-i-test.true, c.len-i-end.ensures) in
    lesser_known (g.R.Ring.modulus ring) (g.R.Ring.has ring)
    (g.R.Ring.value ring) c.args.columns.now words c.in_ok-words.ensures.sorted c.loop-i.i c.loop-i.rows c.index.result.now t
    inside c.index.ensures c.loop-i.invariant (c.in_ok-words.ensures.whole t is) before

pub loop-i-preserved : goal.loop-i-preserved
loop-i-preserved g c =
    let ring = c.args.ring.now in
    let m = g.R.Ring.modulus ring in
    let has = g.R.Ring.has ring in
    let value = g.R.Ring.value ring in
    let columns = c.args.columns.now in
    let words = c.in_ok-words.words.items in
    let i = c.loop-i.i in
    let w = c.index-in-loop-i.result.now in
    let inside : i < length words = omega (arith, c.loop-i-test.true, c.len-i-end.ensures) in
    let same : c.index.result.now ≡ w = c.index.ensures ∙ get_or_default words i c.index.result.now w inside ∙ sym c.index-in-loop-i.ensures in
    let of_word : IsRowOf m has value columns (single w) c.in_ok-row.row =
    subst (IsRowOf m has value columns (single w)) (sym c.in_ok-row.ensures.ok)
    (subst (λ v. IsRowOf m has value columns (single v) c.in_ok-made.made) same c.in_ok-made.ensures) in
    one_row_more m has value columns words i c.loop-i.rows w c.in_ok-row.row c.push.new.self inside c.index-in-loop-i.ensures c.loop-i.invariant of_word
    c.in_ok-push.ensures

pub returns : goal.returns
returns g c =
    let ring = c.args.ring.now in
    all_rows (g.R.Ring.modulus ring) (g.R.Ring.has ring) (g.R.Ring.value ring) c.args.columns.now c.in_ok-words.words.items c.in_ok-words.ensures.sorted
    c.loop-i.i c.loop-i.rows (omega (arith, c.loop-i-test.false, c.loop-i.auto.i-end, c.len-i-end.ensures)) c.in_ok-words.ensures.whole c.loop-i.invariant
