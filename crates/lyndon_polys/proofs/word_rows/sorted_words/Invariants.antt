use Rattle.std.proofs.Common.{◌≡◌, map, take}
use Rattle.lyndon_words.specs.Lyndon.{joined}
use Rattle.lyndon_polys.proofs.word_rows.sorted_words.Given as goal

abbrev pub invariant-loop-i : goal.invariant-loop-i
invariant-loop-i l = l.words.items ≡ map joined (take l.i l.columns.list)
