use Rattle.page_codec.specs.Spelling.{pair_spelling}
use Rattle.page_codec.proofs.Appending.{room_next}
use Rattle.page_codec.proofs.writing.put_column_pairs.Goals as goal

pub put_column_pair-requires : goal.put_column_pair-requires
put_column_pair-requires c = room_next (pair_spelling 2) c.args.pairs.now c.loop-pair.pair-index
    (0, 0) c.args.out.now c.loop-pair.out c.requires c.loop-pair.invariant c.loop-pair-test.true
