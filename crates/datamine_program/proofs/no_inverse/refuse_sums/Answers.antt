use Rattle.std.proofs.Common.{inl, refl, subst}
use Rattle.whole_runs.specs.declared.status.Status.TheVariants as status
use Rattle.whole_runs.specs.Texts.{term_line}
use Rattle.whole_runs.specs.Works.Work.{Writes}
use Rattle.whole_runs.proofs.Outcomes.{outcome_of, broken_off}
use Rattle.datamine_program.specs.Inner.{IsSumFaultFor}
use Rattle.datamine_program.proofs.no_inverse.refuse_sums.Goals as goal

pub returns-in-NoInverse-clause-outcome : goal.returns-in-NoInverse-clause-outcome
returns-in-NoInverse-clause-outcome g c =
    λ asked contents left is. outcome_of asked contents (Writes (term_line c.in-NoInverse.value c.in-NoInverse.term) status.NoInverse) left _ _ _
    (subst (IsSumFaultFor asked contents) c.in-NoInverse.is is) (c.refuse_term.ensures.has left)

pub returns-in-Memory-clause-outcome : goal.returns-in-Memory-clause-outcome
returns-in-Memory-clause-outcome g c = λ asked contents left is. broken_off asked contents left _ status.Memory (inl refl)
