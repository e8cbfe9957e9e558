use Rattle.std.proofs.Common.{arith}
use Rattle.word_letters.proofs.Packings.{IsPacked-from, word_of-from}
use Rattle.word_letters.proofs.PartNumbers.{length-kept, letters-drop-lt, drop-packed}
use Rattle.word_letters.proofs.word.Word.without_front.Goals as goal

pub overflow_mul-letters : goal.overflow_mul-letters
overflow_mul-letters c = omega (arith, letters-drop-lt _ c.args.self c.self.invariant c.self.view_is c.args.n c.requires)

pub overflow_mul-result : goal.overflow_mul-result
overflow_mul-result c = omega (arith, letters-drop-lt _ c.args.self c.self.invariant c.self.view_is c.args.n c.requires)

pub overflow_add-result : goal.overflow_add-result
overflow_add-result c = omega (arith, letters-drop-lt _ c.args.self c.self.invariant c.self.view_is c.args.n c.requires)

pub invariant_of-result : goal.invariant_of-result
invariant_of-result c =
    IsPacked-from _ _ (drop-packed _ c.args.self c.self.invariant c.self.view_is c.args.n c.requires c.weight.result c.weight.ensures.length)
    (length-kept _ c.args.self c.self.invariant c.self.view_is c.args.n c.requires)

pub returns : goal.returns
returns c =
    word_of-from _ _ (drop-packed _ c.args.self c.self.invariant c.self.view_is c.args.n c.requires c.weight.result c.weight.ensures.length)
    (length-kept _ c.args.self c.self.invariant c.self.view_is c.args.n c.requires)
