use Rattle.std.proofs.Common.{ap, ◌∙◌, arith}
use Rattle.word_letters.specs.Packing.{digits_of}
use Rattle.word_letters.proofs.Packings.{IsPacked-from, word_of-from}
use Rattle.word_letters.proofs.PartNumbers.{length-letters_of, digits_of-letters_of, shifted-lt, bits-packed}
use Rattle.word_letters.proofs.word.Word.from_bits.Goals as goal

pub overflow_mul-result : goal.overflow_mul-result
overflow_mul-result c = omega (arith, shifted-lt c.args.weight c.args.bits c.requires.weight c.requires.fits)

pub overflow_mul-result-2 : goal.overflow_mul-result-2
overflow_mul-result-2 c = omega (arith, shifted-lt c.args.weight c.args.bits c.requires.weight c.requires.fits)

pub overflow_add-result : goal.overflow_add-result
overflow_add-result c = omega (arith, shifted-lt c.args.weight c.args.bits c.requires.weight c.requires.fits)

pub invariant_of-result : goal.invariant_of-result
invariant_of-result c =
    let h = c.requires.weight in
    IsPacked-from _ _ (bits-packed c.args.weight c.args.bits h c.requires.fits) (omega (arith, length-letters_of c.args.weight c.args.bits))

pub returns-clause-letters : goal.returns-clause-letters
returns-clause-letters c =
    let h = c.requires.weight in
    word_of-from _ _ (bits-packed c.args.weight c.args.bits h c.requires.fits) (omega (arith, length-letters_of c.args.weight c.args.bits))

pub returns-clause-digits : goal.returns-clause-digits
returns-clause-digits c =
    let h = c.requires.weight in
    ap (digits_of c.args.weight) (word_of-from _ _ (bits-packed c.args.weight c.args.bits h c.requires.fits) (omega (arith, length-letters_of c.args.weight c.args.bits)))
    ∙ digits_of-letters_of c.args.weight c.args.bits c.requires.fits
