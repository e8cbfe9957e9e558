use Rattle.std.proofs.Common.{◌∙◌, inl, refl}
use Rattle.whole_runs.specs.declared.status.Status.TheVariants as status
use Rattle.whole_runs.specs.FileTexts.{complete_line}
use Rattle.whole_runs.proofs.Outcomes.{writes_none}
use Rattle.datamine_program.proofs.FileRuns.{has_text}
use Rattle.datamine_program.proofs.check.tell_complete.Goals as goal

pub returns-in-Ok-clause-has : goal.returns-in-Ok-clause-has
returns-in-Ok-clause-has g c = λ left.
    has_text _ _ status.Done left _ _ _ (c.as_bytes.ensures.value ∙ c.in-Ok.ensures) (c.write_and_end.ensures.has left)

pub returns-in-Err-clause-has : goal.returns-in-Err-clause-has
returns-in-Err-clause-has g c = λ left.
    writes_none (complete_line c.args.params.now c.args.relations c.args.rows) status.Done status.Memory _ left (inl refl)
