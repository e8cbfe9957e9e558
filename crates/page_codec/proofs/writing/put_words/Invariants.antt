use Rattle.std.proofs.Common.{take}
use Rattle.std.specs.List.{flat_map}
use Rattle.page_codec.specs.Spelling.{word_spelling}
use Rattle.page_codec.specs.Inner.{Wrote}
use Rattle.page_codec.proofs.writing.put_words.Given as goal

abbrev pub invariant-loop-i : goal.invariant-loop-i
invariant-loop-i l = Wrote l.fn.out l.out (flat_map word_spelling (take l.i l.words))
