use Rattle.std.proofs.Common.{arith}
use Rattle.zeta_model.proofs.StuffleLetters.{length-z_word}
use Rattle.word_letters.proofs.Packings.{IsPacked-from, word_of-from}
use Rattle.word_letters.proofs.PartNumbers.{z-within, z-packed}
use Rattle.word_letters.proofs.word.Word.z.Goals as goal

pub overflow_mul-result : goal.overflow_mul-result
overflow_mul-result c = omega (arith, z-within c.args.k c.requires.some c.requires.fits)

pub overflow_add-result : goal.overflow_add-result
overflow_add-result c = omega (arith, z-within c.args.k c.requires.some c.requires.fits)

pub invariant_of-result : goal.invariant_of-result
invariant_of-result c = IsPacked-from _ _ (z-packed c.args.k c.requires.some c.requires.fits) (omega (arith, length-z_word c.args.k))

pub returns : goal.returns
returns c = word_of-from _ _ (z-packed c.args.k c.requires.some c.requires.fits) (omega (arith, length-z_word c.args.k))
