use Rattle.std.proofs.Common.{length}
use Rattle.std.specs.List.{flat_map}
use Rattle.byteorder.specs.Endian.{little_bytes}
use Rattle.page_codec.specs.Spelling.{pair_spelling}
use Rattle.page_codec.proofs.Appending.{room_front, room_behind, wrote_both}
use Rattle.page_codec.proofs.writing.put_combination.Goals as goal

pub put_u16-requires : goal.put_u16-requires
put_u16-requires c = room_front c.args.out.now (little_bytes 2 (length c.args.pairs.now)) (flat_map (pair_spelling 4) c.args.pairs.now) c.requires.room

pub put_number_pairs-requires : goal.put_number_pairs-requires
put_number_pairs-requires c = room_behind c.args.out.now c.put_u16.new.out (little_bytes 2 (length c.args.pairs.now))
    (flat_map (pair_spelling 4) c.args.pairs.now) c.requires.room c.put_u16.ensures

pub returns : goal.returns
returns c = wrote_both c.args.out.now c.put_u16.new.out c.put_number_pairs.new.out (little_bytes 2 (length c.args.pairs.now))
    (flat_map (pair_spelling 4) c.args.pairs.now) c.put_u16.ensures c.put_number_pairs.ensures
