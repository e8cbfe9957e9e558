use Rattle.std.proofs.Common.{Ok, inl, inr, refl, sym, subst}
use Rattle.whole_runs.specs.declared.command.Command.TheVariants.{Build}
use Rattle.whole_runs.specs.declared.status.Status.TheVariants as status
use Rattle.whole_runs.specs.Texts.{word_line, relation_line}
use Rattle.whole_runs.specs.FileTexts.{exists_line, unreadable_line, differs_line}
use Rattle.whole_runs.specs.Outcomes.{contents_of}
use Rattle.whole_runs.specs.Works.Work.{Writes}
use Rattle.whole_runs.proofs.Outcomes.{broken_off}
use Rattle.file_model.specs.Builds.Answer.{Exists, NoInverseWord, NoInverseRelation}
use Rattle.datamine_program.specs.Inner.{CanTellFault, StatusOfFault, IsFileWork, IsBuildFault}
use Rattle.datamine_program.proofs.FileRuns.{named_outcome}
use Rattle.datamine_program.proofs.Building.{build_work}
use Rattle.datamine_program.proofs.build.refuse_build.Goals as goal

pub returns-in-DiskFault-clause-which : goal.returns-in-DiskFault-clause-which
returns-in-DiskFault-clause-which g c = subst (λ e. StatusOfFault e status.DiskFault) (sym c.in-DiskFault.is) refl

pub returns-in-Memory-clause-which : goal.returns-in-Memory-clause-which
returns-in-Memory-clause-which g c = subst (λ e. StatusOfFault e status.Memory) (sym c.in-Memory.is) refl

pub returns-in-DiskFault-clause-outcome : goal.returns-in-DiskFault-clause-outcome
returns-in-DiskFault-clause-outcome g c =
    λ params told left is. broken_off (Ok (Build params)) (contents_of told) left _ status.DiskFault (inr (inl refl))

pub returns-in-Memory-clause-outcome : goal.returns-in-Memory-clause-outcome
returns-in-Memory-clause-outcome g c = λ params told left is. broken_off (Ok (Build params)) (contents_of told) left _ status.Memory (inl refl)

pub refuse_word-requires : goal.refuse_word-requires
refuse_word-requires g c = subst CanTellFault c.in-NoInverseWord.is c.requires

pub returns-in-Exists-clause-which : goal.returns-in-Exists-clause-which
returns-in-Exists-clause-which g c = subst (λ e. StatusOfFault e c.refuse_number.result) (sym c.in-Exists.is) c.refuse_number.ensures.which

pub returns-in-BadPage-clause-which : goal.returns-in-BadPage-clause-which
returns-in-BadPage-clause-which g c = subst (λ e. StatusOfFault e c.refuse_number-in-BadPage.result) (sym c.in-BadPage.is) c.refuse_number-in-BadPage.ensures.which

pub returns-in-NoInverseWord-clause-which : goal.returns-in-NoInverseWord-clause-which
returns-in-NoInverseWord-clause-which g c = subst (λ e. StatusOfFault e c.refuse_word.result) (sym c.in-NoInverseWord.is) c.refuse_word.ensures.which

pub returns-in-NoInverseRelation-clause-which : goal.returns-in-NoInverseRelation-clause-which
returns-in-NoInverseRelation-clause-which g c = subst (λ e. StatusOfFault e c.refuse_relation.result) (sym c.in-NoInverseRelation.is) c.refuse_relation.ensures.which

pub returns-in-Differs-clause-which : goal.returns-in-Differs-clause-which
returns-in-Differs-clause-which g c = subst (λ e. StatusOfFault e c.refuse_number-in-Differs.result) (sym c.in-Differs.is) c.refuse_number-in-Differs.ensures.which

pub returns-in-Exists-clause-outcome : goal.returns-in-Exists-clause-outcome
returns-in-Exists-clause-outcome g c = λ params told left is.
    named_outcome (Ok (Build params)) tt told (Writes (exists_line c.in-Exists.bytes) status.NotATable) left _ _ _
    (build_work params told (Exists c.in-Exists.bytes) (subst (IsBuildFault params told) c.in-Exists.is is)) (c.refuse_number.ensures.has left)

pub returns-in-NoInverseWord-clause-outcome : goal.returns-in-NoInverseWord-clause-outcome
returns-in-NoInverseWord-clause-outcome g c = λ params told left is.
    let value = c.in-NoInverseWord.value in
    let word = c.in-NoInverseWord.word in
    named_outcome (Ok (Build params)) tt told (Writes (word_line value word) status.NoInverse) left _ _ _
    (build_work params told (NoInverseWord value word) (subst (IsBuildFault params told) c.in-NoInverseWord.is is)) (c.refuse_word.ensures.has left)

pub returns-in-NoInverseRelation-clause-outcome : goal.returns-in-NoInverseRelation-clause-outcome
returns-in-NoInverseRelation-clause-outcome g c = λ params told left is.
    let value = c.in-NoInverseRelation.value in
    let n = c.in-NoInverseRelation.n in
    named_outcome (Ok (Build params)) tt told (Writes (relation_line value n) status.NoInverse) left _ _ _
    (build_work params told (NoInverseRelation value n) (subst (IsBuildFault params told) c.in-NoInverseRelation.is is))
    (c.refuse_relation.ensures.has left)

pub returns-in-BadPage-clause-outcome : goal.returns-in-BadPage-clause-outcome
returns-in-BadPage-clause-outcome g c = λ params told left is.
    let line = Writes (unreadable_line c.in-BadPage.page) status.NotATable in
    named_outcome (Ok (Build params)) tt told line left _ _ _
    (subst (λ o. IsFileWork (Ok (Build params)) o line) (sym (subst (IsBuildFault params told) c.in-BadPage.is is)) tt)
    (c.refuse_number-in-BadPage.ensures.has left)

pub returns-in-Differs-clause-outcome : goal.returns-in-Differs-clause-outcome
returns-in-Differs-clause-outcome g c = λ params told left is.
    let line = Writes (differs_line c.in-Differs.page) status.NotATable in
    named_outcome (Ok (Build params)) tt told line left _ _ _
    (subst (λ o. IsFileWork (Ok (Build params)) o line) (sym (subst (IsBuildFault params told) c.in-Differs.is is)) tt)
    (c.refuse_number-in-Differs.ensures.has left)
