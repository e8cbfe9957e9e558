use Rattle.page_codec.specs.Spelling.{pair_spelling}
use Rattle.page_codec.proofs.Appending.{room_next}
use Rattle.page_codec.proofs.writing.put_number_pairs.Goals as goal

pub put_number_pair-requires : goal.put_number_pair-requires
put_number_pair-requires c = room_next (pair_spelling 4) c.args.pairs.now c.loop-pair.pair-index
    (0, 0) c.args.out.now c.loop-pair.out c.requires c.loop-pair.invariant c.loop-pair-test.true
