use Rattle.std.proofs.Common.{take}
use Rattle.std.specs.List.{flat_map}
use Rattle.page_codec.specs.Spelling.{pair_spelling}
use Rattle.page_codec.specs.Inner.{Wrote}
use Rattle.page_codec.proofs.writing.put_column_pairs.Given as goal

abbrev pub invariant-loop-pair : goal.invariant-loop-pair
invariant-loop-pair l = Wrote l.fn.out l.out (flat_map (pair_spelling 2) (take l.pair-index l.pairs))
