use Rattle.std.proofs.Common.{◌∙◌, ap, length, arith}
use Rattle.word_letters.proofs.Packings.{weight_of}
use Rattle.word_letters.proofs.word.Word.weight.Goals as goal

pub returns-clause-length : goal.returns-clause-length
returns-clause-length c = weight_of _ c.self.invariant ∙ ap length c.self.view_is

pub returns-clause-within : goal.returns-clause-within
returns-clause-within c = omega (arith, weight_of _ c.self.invariant, c.self.invariant.within)
