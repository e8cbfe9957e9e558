use Rattle.std.proofs.Common.{◌≡◌, Some, slice_get, sym, ap, ◌∙◌, arith}
use Rattle.zeta_model.specs.Words.{word_cmp}
use Rattle.zeta_model.proofs.WordOrder.{word_cmp_total, word_cmp-IsAntisymmetric}
use Rattle.column_order.specs.Inner.{column_words}
use Rattle.column_order.proofs.ColumnWords.{itself}
use Rattle.column_order.proofs.Places.{word_held_at}
use Rattle.column_order.proofs.SortedLists.{absent, found_at, one_index, rises}
use Rattle.column_order.proofs.WordPlaces.{ArePlacedTo-next, ArePlaces-end, column_word_place, length-column_words}
use Rattle.column_order.proofs.word_places.places_of.Goals as goal

pub unreachable-requires : goal.unreachable-requires
unreachable-requires c =
    let other : slice_get (column_words c.args.columns.now) c.loop-i.i ≡ Some c.word.result =
    column_word_place c.args.columns.now c.loop-i.i c.index-columns-i.result c.loop-i-test.true c.index-columns-i.is
    ∙ ap Some (sym c.word.ensures.joined) in
    absent word_cmp word_cmp_total word_cmp-IsAntisymmetric c.args.words.now c.word.result c.in-Err.field-0
    (c.in-Err.ensures.position (rises word_cmp word_cmp_total word_cmp-IsAntisymmetric c.args.words.now c.word.result c.requires.increasing))
    (c.requires.known c.word.result (word_held_at (column_words c.args.columns.now) c.loop-i.i c.word.result other))

pub loop-i-preserved : goal.loop-i-preserved
loop-i-preserved c =
    let other : slice_get (column_words c.args.columns.now) c.loop-i.i ≡ Some c.word.result =
    column_word_place c.args.columns.now c.loop-i.i c.index-columns-i.result c.loop-i-test.true c.index-columns-i.is
    ∙ ap Some (sym c.word.ensures.joined) in
    let word : slice_get c.args.words.now c.in-Ok.k ≡ Some c.word.result =
    found_at word_cmp word_cmp_total word_cmp-IsAntisymmetric c.args.words.now c.word.result c.in-Ok.k c.in-Ok.ensures.bound c.in-Ok.ensures.ok in
    ArePlacedTo-next c.args.words.now (column_words c.args.columns.now) c.loop-i.places.items c.loop-i.i c.in-Ok.k c.word.result c.loop-i.invariant
    c.in-Ok.ensures.bound word other (λ l e. one_index word_cmp itself c.args.words.now c.in-Ok.k l c.word.result c.requires.increasing word e)

pub returns : goal.returns
returns c =
    ArePlaces-end c.args.words.now (column_words c.args.columns.now) c.loop-i.places.items c.loop-i.i c.loop-i.invariant
    (omega (arith, length-column_words c.args.columns.now, c.loop-i-test.false)) c.requires.found
