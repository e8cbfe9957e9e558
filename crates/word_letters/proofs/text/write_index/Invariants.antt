use Rattle.std.proofs.Common.{◌≡◌, true, length}
use Rattle.zeta_model.specs.Words.{has_index}
use Rattle.word_letters.proofs.text.write_index.Given as goal

abbrev pub invariant-loop-rest : goal.invariant-loop-rest
invariant-loop-rest W l = has_index l.rest ≡ true

abbrev pub decreases-loop-rest : goal.decreases-loop-rest
decreases-loop-rest W l = length l.rest
