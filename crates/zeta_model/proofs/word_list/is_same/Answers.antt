use Rattle.std.proofs.Common.{◌≡◌, refl, ◌∙◌}
use Rattle.std.specs.Ordering.{eq_by_cmp}
use Rattle.std.specs.Cmp.Lexicographic.{lists_ties}
use Rattle.zeta_model.specs.declared.Letter.{Letter}
use Rattle.zeta_model.specs.declared.Letter.TheVariants.{X, Y}
use Rattle.zeta_model.specs.Words.{letter_cmp}
use Rattle.zeta_model.specs.contracts.LetterPartialEq.TheImpl.{eq-value}
use Rattle.zeta_model.proofs.word_list.is_same.Goals as goal

eq-letter_cmp : (a b : Letter) → eq-value.it a b ≡ eq_by_cmp letter_cmp a b
eq-letter_cmp X X = refl
eq-letter_cmp X Y = refl
eq-letter_cmp Y X = refl
eq-letter_cmp Y Y = refl

pub returns : goal.returns
returns c = c.eq.ensures ∙ lists_ties letter_cmp eq-letter_cmp c.args.u.now c.args.v.now
