use Rattle.std.proofs.Common.{◌≡◌, ◌++◌, drop}
use Rattle.zeta_model.specs.Regularise.{y_word}
use Rattle.word_letters.proofs.word.Word.split_y.Given as goal

abbrev pub invariant-loop-i : goal.invariant-loop-i
invariant-loop-i l = l.fn.self ≡ y_word l.i ++ drop l.i l.fn.self
