use Rattle.std.proofs.Common.{◌∙◌, sym}
use Rattle.quasi_product.proofs.LetterLemmas.{first_z-y}
use Rattle.quasi_product.proofs.letters.+first_z.Goals as goal

pub returns-in-Y-clause-front : goal.returns-in-Y-clause-front
returns-in-Y-clause-front t c = c.of.ensures ∙ sym (first_z-y c.args.w c.in-Y.ensures)
