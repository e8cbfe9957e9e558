use Rattle.std.proofs.Common.{inl, refl, subst}
use Rattle.whole_runs.specs.declared.status.Status.TheVariants as status
use Rattle.whole_runs.specs.Texts.{word_line, relation_line}
use Rattle.whole_runs.specs.Works.Work.{Writes}
use Rattle.whole_runs.proofs.Outcomes.{outcome_of, broken_off}
use Rattle.datamine_program.specs.Inner.{IsFaultFor, HasText}
use Rattle.datamine_program.proofs.no_inverse.refuse_table.Goals as goal

pub refuse_word-requires : goal.refuse_word-requires
refuse_word-requires g c = subst HasText c.in-NoInverseWord.is c.requires

pub returns-in-NoInverseWord-clause-outcome : goal.returns-in-NoInverseWord-clause-outcome
returns-in-NoInverseWord-clause-outcome g c =
    λ asked contents left is. outcome_of asked contents (Writes (word_line c.in-NoInverseWord.value c.in-NoInverseWord.word) status.NoInverse) left _ _ _
    (subst (IsFaultFor asked contents) c.in-NoInverseWord.is is) (c.refuse_word.ensures.has left)

pub returns-in-NoInverseRelation-clause-outcome : goal.returns-in-NoInverseRelation-clause-outcome
returns-in-NoInverseRelation-clause-outcome g c =
    λ asked contents left is. outcome_of asked contents (Writes (relation_line c.in-NoInverseRelation.value c.in-NoInverseRelation.n) status.NoInverse) left _ _ _
    (subst (IsFaultFor asked contents) c.in-NoInverseRelation.is is) (c.refuse_relation.ensures.has left)

pub returns-in-Memory-clause-outcome : goal.returns-in-Memory-clause-outcome
returns-in-Memory-clause-outcome g c = λ asked contents left is. broken_off asked contents left _ status.Memory (inl refl)
