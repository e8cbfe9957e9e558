use Rattle.std.proofs.Common.{length, arith}
use Rattle.word_letters.proofs.Packings.{digits_of-lt}
use Rattle.word_letters.proofs.PartNumbers.{bits-digits_of}
use Rattle.word_letters.proofs.word.Word.bits.Goals as goal

pub returns-clause-digits : goal.returns-clause-digits
returns-clause-digits c = bits-digits_of _ c.args.self c.self.invariant c.self.view_is c.weight.result c.weight.ensures.length

pub returns-clause-within : goal.returns-clause-within
returns-clause-within c =
    omega (
      arith,
      bits-digits_of _ c.args.self c.self.invariant c.self.view_is c.weight.result c.weight.ensures.length,
      digits_of-lt (length c.args.self) c.args.self (omega arith),
    )
