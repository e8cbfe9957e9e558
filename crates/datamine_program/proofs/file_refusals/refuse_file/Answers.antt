use Rattle.std.proofs.Common.{inl, inr, refl, subst}
use Rattle.outside_io.specs.Causes.{Rose}
use Rattle.whole_runs.specs.declared.status.Status.TheVariants as status
use Rattle.whole_runs.specs.FileTexts.{foreign_line, unreadable_line, misplaced_line, unfinished_line}
use Rattle.whole_runs.specs.Outcomes.{contents_of}
use Rattle.whole_runs.specs.Works.Work.{Writes}
use Rattle.whole_runs.proofs.Outcomes.{broken_off}
use Rattle.datamine_program.specs.Inner.{IsShowFault}
use Rattle.datamine_program.proofs.FileRuns.{file_outcome, foreign_refused, unreadable_refused, misplaced_refused, empty_refused}
use Rattle.datamine_program.proofs.file_refusals.refuse_file.Goals as goal

pub returns-in-DiskFault-clause-outcome : goal.returns-in-DiskFault-clause-outcome
returns-in-DiskFault-clause-outcome g c =
    λ asked before now told left reads is. broken_off asked (contents_of told) left _ status.DiskFault (inr (inl refl))

pub returns-in-Memory-clause-outcome : goal.returns-in-Memory-clause-outcome
returns-in-Memory-clause-outcome g c =
    λ asked before now told left reads is. broken_off asked (contents_of told) left _ status.Memory (inl refl)

pub returns-in-Foreign-clause-outcome : goal.returns-in-Foreign-clause-outcome
returns-in-Foreign-clause-outcome g c = λ asked before now told left reads is.
    file_outcome asked reads told (Writes (foreign_line c.in-Foreign.bytes) status.NotATable) left _ _ _
    (foreign_refused asked reads told c.in-Foreign.bytes (subst (IsShowFault (Rose before now) told) c.in-Foreign.is is)) (c.refuse_number.ensures.has left)

pub returns-in-BadPage-clause-outcome : goal.returns-in-BadPage-clause-outcome
returns-in-BadPage-clause-outcome g c = λ asked before now told left reads is.
    file_outcome asked reads told (Writes (unreadable_line c.in-BadPage.page) status.NotATable) left _ _ _
    (unreadable_refused asked reads told c.in-BadPage.page (subst (IsShowFault (Rose before now) told) c.in-BadPage.is is)) (c.refuse_number-in-BadPage.ensures.has left)

pub returns-in-Misplaced-clause-outcome : goal.returns-in-Misplaced-clause-outcome
returns-in-Misplaced-clause-outcome g c = λ asked before now told left reads is.
    file_outcome asked reads told (Writes (misplaced_line c.in-Misplaced.page) status.NotATable) left _ _ _
    (misplaced_refused asked reads told c.in-Misplaced.page (subst (IsShowFault (Rose before now) told) c.in-Misplaced.is is)) (c.refuse_number-in-Misplaced.ensures.has left)

pub returns-in-NoPage-clause-outcome : goal.returns-in-NoPage-clause-outcome
returns-in-NoPage-clause-outcome g c = λ asked before now told left reads is.
    file_outcome asked reads told (Writes (unfinished_line 0) status.NotComplete) left _ _ _ (empty_refused asked reads told (subst (IsShowFault (Rose before now) told) c.in-NoPage.is is))
    (c.refuse_number-in-NoPage.ensures.has left)
