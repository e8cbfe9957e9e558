use Rattle.std.proofs.Common.{Ok, inl, inr, refl, ap, subst}
use Rattle.zeta_model.proofs.WordLemmas.{admissible-has_index}
use Rattle.whole_runs.specs.declared.command.Command.TheVariants.{Resume}
use Rattle.whole_runs.specs.declared.status.Status.TheVariants as status
use Rattle.whole_runs.specs.Outcomes.{contents_of}
use Rattle.whole_runs.proofs.Outcomes.{broken_off}
use Rattle.file_model.specs.Builds.Answer.{Foreign, BadPage, Other, Misfit, NoInverseWord, NotForward, NoInverseRelation, DiffersAt}
use Rattle.table_build.specs.Resumes.{CanTell, fault_says}
use Rattle.datamine_program.specs.Inner.{end_of}
use Rattle.datamine_program.proofs.GoingOn.{ends_as, ends_so, said_outcome}
use Rattle.datamine_program.proofs.resume.refuse_resume.Goals as goal

pub refuse_word-requires : goal.refuse_word-requires
refuse_word-requires g c = admissible-has_index c.in-NoInverseWord.word (subst CanTell c.in-NoInverseWord.is c.requires)

pub refuse_other-requires : goal.refuse_other-requires
refuse_other-requires g c = subst CanTell c.in-Other.is c.requires

pub returns-in-DiskFault-clause-which : goal.returns-in-DiskFault-clause-which
returns-in-DiskFault-clause-which g c = ends_so c.args.fault status.DiskFault status.DiskFault (ap end_of c.in-DiskFault.is) (inl refl)

pub returns-in-DiskFault-clause-outcome : goal.returns-in-DiskFault-clause-outcome
returns-in-DiskFault-clause-outcome g c =
    λ params told left is. broken_off (Ok (Resume params)) (contents_of told) left _ status.DiskFault (inr (inl refl))

pub returns-in-Memory-clause-which : goal.returns-in-Memory-clause-which
returns-in-Memory-clause-which g c = ends_so c.args.fault status.Memory status.Memory (ap end_of c.in-Memory.is) (inl refl)

pub returns-in-Memory-clause-outcome : goal.returns-in-Memory-clause-outcome
returns-in-Memory-clause-outcome g c = λ params told left is. broken_off (Ok (Resume params)) (contents_of told) left _ status.Memory (inl refl)

pub returns-in-Other-clause-which : goal.returns-in-Other-clause-which
returns-in-Other-clause-which g c = ends_so _ _ _ (ap end_of c.in-Other.is) c.refuse_other.ensures.which

pub returns-in-Other-clause-outcome : goal.returns-in-Other-clause-outcome
returns-in-Other-clause-outcome g c = λ params told left is.
    said_outcome params told _ (Other c.in-Other.params) (ap fault_says c.in-Other.is) is left _ _ _
    (c.refuse_other.ensures.has left)

pub returns-in-Foreign-clause-which : goal.returns-in-Foreign-clause-which
returns-in-Foreign-clause-which g c =
    ends_so _ _ _ (ap end_of c.in-Foreign.is) (ends_as _ _ c.refuse_number.ensures.which)

pub returns-in-Foreign-clause-outcome : goal.returns-in-Foreign-clause-outcome
returns-in-Foreign-clause-outcome g c = λ params told left is.
    said_outcome params told _ (Foreign c.in-Foreign.bytes) (ap fault_says c.in-Foreign.is) is left _ _ _
    (c.refuse_number.ensures.has left)

pub returns-in-BadPage-clause-which : goal.returns-in-BadPage-clause-which
returns-in-BadPage-clause-which g c =
    ends_so _ _ _ (ap end_of c.in-BadPage.is) (ends_as _ _ c.refuse_number-in-BadPage.ensures.which)

pub returns-in-BadPage-clause-outcome : goal.returns-in-BadPage-clause-outcome
returns-in-BadPage-clause-outcome g c = λ params told left is.
    said_outcome params told _ (BadPage c.in-BadPage.page) (ap fault_says c.in-BadPage.is) is left _ _ _
    (c.refuse_number-in-BadPage.ensures.has left)

pub returns-in-Misfit-clause-which : goal.returns-in-Misfit-clause-which
returns-in-Misfit-clause-which g c =
    ends_so _ _ _ (ap end_of c.in-Misfit.is) (ends_as _ _ c.refuse_number-in-Misfit.ensures.which)

pub returns-in-Misfit-clause-outcome : goal.returns-in-Misfit-clause-outcome
returns-in-Misfit-clause-outcome g c = λ params told left is.
    said_outcome params told _ (Misfit c.in-Misfit.page) (ap fault_says c.in-Misfit.is) is left _ _ _
    (c.refuse_number-in-Misfit.ensures.has left)

pub returns-in-NotForward-clause-which : goal.returns-in-NotForward-clause-which
returns-in-NotForward-clause-which g c =
    ends_so _ _ _ (ap end_of c.in-NotForward.is) (ends_as _ _ c.refuse_number-in-NotForward.ensures.which)

pub returns-in-NotForward-clause-outcome : goal.returns-in-NotForward-clause-outcome
returns-in-NotForward-clause-outcome g c = λ params told left is.
    said_outcome params told _ (NotForward c.in-NotForward.page) (ap fault_says c.in-NotForward.is) is left _ _ _
    (c.refuse_number-in-NotForward.ensures.has left)

pub returns-in-Differs-clause-which : goal.returns-in-Differs-clause-which
returns-in-Differs-clause-which g c =
    ends_so _ _ _ (ap end_of c.in-Differs.is) (ends_as _ _ c.refuse_number-in-Differs.ensures.which)

pub returns-in-Differs-clause-outcome : goal.returns-in-Differs-clause-outcome
returns-in-Differs-clause-outcome g c = λ params told left is.
    said_outcome params told _ (DiffersAt c.in-Differs.page) (ap fault_says c.in-Differs.is) is left _ _ _
    (c.refuse_number-in-Differs.ensures.has left)

pub returns-in-NoInverseWord-clause-which : goal.returns-in-NoInverseWord-clause-which
returns-in-NoInverseWord-clause-which g c =
    ends_so _ _ _ (ap end_of c.in-NoInverseWord.is) (ends_as _ _ c.refuse_word.ensures.which)

pub returns-in-NoInverseWord-clause-outcome : goal.returns-in-NoInverseWord-clause-outcome
returns-in-NoInverseWord-clause-outcome g c = λ params told left is.
    said_outcome params told _ (NoInverseWord c.in-NoInverseWord.value c.in-NoInverseWord.word) (ap fault_says c.in-NoInverseWord.is) is left _ _ _
    (c.refuse_word.ensures.has left)

pub returns-in-NoInverseRelation-clause-which : goal.returns-in-NoInverseRelation-clause-which
returns-in-NoInverseRelation-clause-which g c =
    ends_so _ _ _ (ap end_of c.in-NoInverseRelation.is) (ends_as _ _ c.refuse_relation.ensures.which)

pub returns-in-NoInverseRelation-clause-outcome : goal.returns-in-NoInverseRelation-clause-outcome
returns-in-NoInverseRelation-clause-outcome g c = λ params told left is.
    said_outcome params told _ (NoInverseRelation c.in-NoInverseRelation.value c.in-NoInverseRelation.n) (ap fault_says c.in-NoInverseRelation.is) is left _ _ _
    (c.refuse_relation.ensures.has left)
