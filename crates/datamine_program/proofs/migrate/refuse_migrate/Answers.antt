use Rattle.std.proofs.Common.{Ok, inl, inr, refl, ap, subst, sym}
use Rattle.whole_runs.specs.declared.command.Command.TheVariants.{Migrate}
use Rattle.whole_runs.specs.declared.status.Status.TheVariants as status
use Rattle.whole_runs.specs.Outcomes.{contents_of}
use Rattle.whole_runs.proofs.Outcomes.{broken_off}
use Rattle.table_migration.specs.Migrations.Answer.{BadPage, Misfit, NotDone}
use Rattle.datamine_program.specs.Inner.{EndsAs, copy_end, IsCopyFault}
use Rattle.datamine_program.proofs.GoingOn.{ends_as}
use Rattle.datamine_program.proofs.Migrating.{copied_outcome, exists_outcome}
use Rattle.datamine_program.proofs.migrate.refuse_migrate.Goals as goal

pub returns-in-DiskFault-clause-which : goal.returns-in-DiskFault-clause-which
returns-in-DiskFault-clause-which g c = subst (λ e. EndsAs e status.DiskFault) (sym (ap copy_end c.in-DiskFault.is)) (inl refl)

pub returns-in-DiskFault-clause-outcome : goal.returns-in-DiskFault-clause-outcome
returns-in-DiskFault-clause-outcome g c = λ told left is. broken_off (Ok Migrate) (contents_of told) left _ status.DiskFault (inr (inl refl))

pub returns-in-ReadFault-clause-which : goal.returns-in-ReadFault-clause-which
returns-in-ReadFault-clause-which g c = subst (λ e. EndsAs e status.ReadFault) (sym (ap copy_end c.in-ReadFault.is)) (inl refl)

pub returns-in-ReadFault-clause-outcome : goal.returns-in-ReadFault-clause-outcome
returns-in-ReadFault-clause-outcome g c = λ told left is. broken_off (Ok Migrate) (contents_of told) left _ status.ReadFault (inr (inr (inl refl)))

pub returns-in-Memory-clause-which : goal.returns-in-Memory-clause-which
returns-in-Memory-clause-which g c = subst (λ e. EndsAs e status.Memory) (sym (ap copy_end c.in-Memory.is)) (inl refl)

pub returns-in-Memory-clause-outcome : goal.returns-in-Memory-clause-outcome
returns-in-Memory-clause-outcome g c = λ told left is. broken_off (Ok Migrate) (contents_of told) left _ status.Memory (inl refl)

pub returns-in-Exists-clause-which : goal.returns-in-Exists-clause-which
returns-in-Exists-clause-which g c =
    subst (λ e. EndsAs e c.refuse_number.result) (sym (ap copy_end c.in-Exists.is)) (ends_as status.NotATable c.refuse_number.result c.refuse_number.ensures.which)

pub returns-in-Exists-clause-outcome : goal.returns-in-Exists-clause-outcome
returns-in-Exists-clause-outcome g c = λ told left is.
    exists_outcome c.in-Exists.bytes told (subst (IsCopyFault told left) c.in-Exists.is is) left _ _ _ (c.refuse_number.ensures.has left)

pub returns-in-BadPage-clause-which : goal.returns-in-BadPage-clause-which
returns-in-BadPage-clause-which g c =
    subst (λ e. EndsAs e c.refuse_number-in-BadPage.result) (sym (ap copy_end c.in-BadPage.is)) (ends_as status.NotATable c.refuse_number-in-BadPage.result c.refuse_number-in-BadPage.ensures.which)

pub returns-in-BadPage-clause-outcome : goal.returns-in-BadPage-clause-outcome
returns-in-BadPage-clause-outcome g c = λ told left is.
    copied_outcome told left (BadPage c.in-BadPage.page) (subst (IsCopyFault told left) c.in-BadPage.is is) _ _ _ (c.refuse_number-in-BadPage.ensures.has left)

pub returns-in-Misfit-clause-which : goal.returns-in-Misfit-clause-which
returns-in-Misfit-clause-which g c =
    subst (λ e. EndsAs e c.refuse_number-in-Misfit.result) (sym (ap copy_end c.in-Misfit.is)) (ends_as status.NotATable c.refuse_number-in-Misfit.result c.refuse_number-in-Misfit.ensures.which)

pub returns-in-Misfit-clause-outcome : goal.returns-in-Misfit-clause-outcome
returns-in-Misfit-clause-outcome g c = λ told left is.
    copied_outcome told left (Misfit c.in-Misfit.page) (subst (IsCopyFault told left) c.in-Misfit.is is) _ _ _ (c.refuse_number-in-Misfit.ensures.has left)

pub returns-in-NotDone-clause-which : goal.returns-in-NotDone-clause-which
returns-in-NotDone-clause-which g c =
    subst (λ e. EndsAs e c.refuse_number-in-NotDone.result) (sym (ap copy_end c.in-NotDone.is)) (ends_as status.NotComplete c.refuse_number-in-NotDone.result c.refuse_number-in-NotDone.ensures.which)

pub returns-in-NotDone-clause-outcome : goal.returns-in-NotDone-clause-outcome
returns-in-NotDone-clause-outcome g c = λ told left is.
    copied_outcome told left (NotDone c.in-NotDone.pages) (subst (IsCopyFault told left) c.in-NotDone.is is) _ _ _ (c.refuse_number-in-NotDone.ensures.has left)
