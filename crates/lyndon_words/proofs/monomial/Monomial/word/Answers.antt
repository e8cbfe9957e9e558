use Rattle.std.proofs.Common.{ap, subst, ◌∙◌, arith, length}
use Rattle.lyndon_words.specs.Lyndon.{joined, IsFactors}
use Rattle.lyndon_words.proofs.Factorising.{word-factors, word-admissible, word-unique}
use Rattle.lyndon_words.proofs.monomial.Monomial.word.Goals as goal

pub returns-clause-factors : goal.returns-clause-factors
returns-clause-factors c = subst (IsFactors c.join.result) c.self.view_is
    (word-factors c.self.inside.factors.items c.join.result c.self.invariant.0 (c.join.ensures ∙ ap joined c.as_slice.ensures))

pub returns-clause-admissible : goal.returns-clause-admissible
returns-clause-admissible c = λ h. word-admissible c.self.inside.factors.items c.join.result c.self.invariant.0 (c.join.ensures
    ∙ ap joined c.as_slice.ensures) (omega (arith, ap length c.self.view_is))

pub returns-clause-unique : goal.returns-clause-unique
returns-clause-unique c = λ p m e. word-unique c.self.inside.factors.items p c.join.result c.self.invariant.0 m (c.join.ensures
    ∙ ap joined c.as_slice.ensures) e ∙ c.self.view_is
