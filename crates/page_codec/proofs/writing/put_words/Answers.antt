use Rattle.std.proofs.Common.{◌≤◌, ◌<◌, length, subst, sym, arith}
use Rattle.std.proofs.lemmas.Option.{get_or_from_slice_get}
use Rattle.page_codec.specs.Spelling.{word_spelling}
use Rattle.page_codec.specs.Inner.{HasRoom}
use Rattle.page_codec.proofs.Appending.{room_next, wrote_next}
use Rattle.page_codec.proofs.Chains.{item_has}
use Rattle.page_codec.proofs.writing.put_words.Goals as goal

pub put_word-requires : goal.put_word-requires
put_word-requires c =
    let many = c.len-i-end.ensures.length in
    let before : c.loop-i.i < length c.args.words.now = omega arith in
    let item = get_or_from_slice_get c.args.words.now c.loop-i.i c.at.result c.at.result c.at.ensures in
    record {
      most = item_has (λ w. length w ≤ 24) c.args.words.now c.loop-i.i c.at.result before (sym item) c.requires.words;
      room = subst (λ w. HasRoom c.loop-i.out (word_spelling w)) item
          (room_next word_spelling c.args.words.now c.loop-i.i c.at.result c.args.out.now c.loop-i.out c.requires.room c.loop-i.invariant before);
    }

pub loop-i-preserved : goal.loop-i-preserved
loop-i-preserved c =
    let many = c.len-i-end.ensures.length in
    let before : c.loop-i.i < length c.args.words.now = omega arith in
    let item = get_or_from_slice_get c.args.words.now c.loop-i.i c.at.result c.at.result c.at.ensures in
    wrote_next word_spelling c.args.words.now c.loop-i.i c.at.result c.args.out.now c.loop-i.out c.put_word.new.out c.loop-i.invariant c.put_word.ensures
    before (sym item)
