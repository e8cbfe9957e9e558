use Rattle.std.proofs.Common.{◌≡◌, ◌++◌, true, length}
use Rattle.zeta_model.specs.Words.{has_index}
use Rattle.zeta_model.specs.Indices.{index_of}
use Rattle.word_letters.proofs.word.Word.to_index.Given as goal

abbrev pub invariant-loop-rest : goal.invariant-loop-rest
invariant-loop-rest l = record { index : has_index l.rest ≡ true; read : l.ks.items ++ index_of l.rest ≡ index_of l.fn.self }

abbrev pub decreases-loop-rest : goal.decreases-loop-rest
decreases-loop-rest l = length l.rest
