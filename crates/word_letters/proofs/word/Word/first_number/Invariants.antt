use Rattle.std.proofs.Common.{◌≡◌, ◌+◌, true, drop}
use Rattle.zeta_model.specs.Words.{ends_with_y}
use Rattle.zeta_model.specs.Indices.{index_from}
use Rattle.word_letters.proofs.word.Word.first_number.Given as goal

abbrev pub invariant-loop-i : goal.invariant-loop-i
invariant-loop-i l = record { ends : ends_with_y (drop l.i l.fn.self) ≡ true; read : index_from (l.i + 1) (drop l.i l.fn.self) ≡ index_from 1 l.fn.self }
