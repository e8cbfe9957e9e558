use Rattle.std.proofs.Common.{◌∙◌, inl, inr, refl}
use Rattle.whole_runs.specs.declared.status.Status.TheVariants as status
use Rattle.whole_runs.specs.FileTexts.{migrated_line}
use Rattle.whole_runs.proofs.Outcomes.{writes_none}
use Rattle.datamine_program.proofs.FileRuns.{has_text}
use Rattle.datamine_program.proofs.GoingOn.{ends_as}
use Rattle.datamine_program.proofs.migrate.tell_migrated.Goals as goal

pub returns-in-Ok-clause-which : goal.returns-in-Ok-clause-which
returns-in-Ok-clause-which g c = ends_as status.Done c.write_and_end.result c.write_and_end.ensures.which

pub returns-in-Err-clause-which : goal.returns-in-Err-clause-which
returns-in-Err-clause-which g c = inr (inl refl)

pub returns-in-Ok-clause-has : goal.returns-in-Ok-clause-has
returns-in-Ok-clause-has g c = λ left.
    has_text _ _ status.Done left _ _ _ (c.as_bytes.ensures.value ∙ c.in-Ok.ensures) (c.write_and_end.ensures.has left)

pub returns-in-Err-clause-has : goal.returns-in-Err-clause-has
returns-in-Err-clause-has g c = λ left.
    writes_none (migrated_line c.args.migrated.now.params c.args.migrated.now.pages) status.Done status.Memory _ left (inl refl)
