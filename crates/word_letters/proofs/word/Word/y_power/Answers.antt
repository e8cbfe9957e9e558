use Rattle.std.proofs.Common.{arith}
use Rattle.zeta_model.proofs.RegularisedWords.{length-y_word}
use Rattle.word_letters.proofs.Packings.{IsPacked-from, word_of-from}
use Rattle.word_letters.proofs.PartNumbers.{power-within, power-packed}
use Rattle.word_letters.proofs.word.Word.y_power.Goals as goal

pub overflow_sub-letters-2 : goal.overflow_sub-letters-2
overflow_sub-letters-2 c = power-within c.args.j c.requires

pub invariant_of-result : goal.invariant_of-result
invariant_of-result c = IsPacked-from _ _ (power-packed c.args.j c.requires) (omega (arith, length-y_word c.args.j))

pub returns : goal.returns
returns c = word_of-from _ _ (power-packed c.args.j c.requires) (omega (arith, length-y_word c.args.j))
