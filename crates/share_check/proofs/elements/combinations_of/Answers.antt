use Rattle.std.proofs.Common.{◌≡◌, ◌+◌, ◌<◌, [], length, take, get_or, sym, ◌∙◌, ap, subst, arith}
use Rattle.std.proofs.lemmas.List.{length-map, get_or_default}
use Rattle.std.proofs.Math.ListN.{get_or-map}
use Rattle.page_codec.specs.declared.parts.FinalEntry.{FinalEntry}
use Rattle.file_model.specs.FinalRows.{no_entry}
use Rattle.share_check.specs.Inner.{AreRead, combinations_of}
use Rattle.share_check.proofs.ReadRows.{read_more}
use Rattle.share_check.proofs.elements.combinations_of.Goals as goal

pub loop-entry-preserved : goal.loop-entry-preserved
loop-entry-preserved g c =
    let zero = g.R.Ring.zero in
    let has = g.R.Ring.has c.args.ring.now in
    let value = g.R.Ring.value c.args.ring.now in
    let entries = c.args.entries.now in
    let lists = combinations_of entries in
    let i = c.loop-entry.entry-index in
    let item = c.entry-item.result in
    let inside : i < length lists = omega (arith, c.loop-entry-test.true, length-map entries (λ (e : FinalEntry). e.combination)) in
    let there : item.combination ≡ get_or lists i [] =
    ap (λ (e : FinalEntry). e.combination) (c.entry-item.is ∙ get_or_default entries i item no_entry c.loop-entry-test.true)
    ∙ sym (get_or-map (λ (e : FinalEntry). e.combination) entries i no_entry) in
    let read = c.in_ok-combination_of_data.ensures in
    subst (AreRead zero has value (take (i + 1) lists)) (sym c.in_ok-push.ensures.items)
    (read_more zero has value lists i c.loop-entry.combinations.items c.in_ok-combination_of_data.field-0 inside c.loop-entry.invariant
    (read.written ∙ there) read.row read.in_ring)
