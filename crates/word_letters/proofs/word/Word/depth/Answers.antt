use Rattle.std.proofs.Common.{◌∙◌, ap, arith}
use Rattle.std.proofs.lemmas.List.Sums.{count_by-le-length}
use Rattle.zeta_model.specs.Words.{depth_of, is_y}
use Rattle.word_letters.proofs.Packings.{ones-letters}
use Rattle.word_letters.proofs.word.Word.depth.Goals as goal

pub returns-clause-count : goal.returns-clause-count
returns-clause-count c = ones-letters _ c.self.invariant ∙ ap depth_of c.self.view_is

pub returns-clause-within : goal.returns-clause-within
returns-clause-within c = omega (arith, ones-letters _ c.self.invariant, ap depth_of c.self.view_is, count_by-le-length is_y c.args.self)
