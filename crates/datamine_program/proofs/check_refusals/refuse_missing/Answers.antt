use Rattle.std.proofs.Common.{◌∙◌, inl, refl}
use Rattle.poly_print.specs.Polynomials.{residues_text}
use Rattle.cert_checker.specs.Certified.{residues_at}
use Rattle.whole_runs.specs.declared.status.Status.TheVariants as status
use Rattle.whole_runs.specs.FileTexts.{missing_line}
use Rattle.whole_runs.proofs.Outcomes.{writes_none}
use Rattle.datamine_program.proofs.FileRuns.{has_text}
use Rattle.datamine_program.proofs.check_refusals.refuse_missing.Goals as goal

pub returns-in-Ok-clause-has : goal.returns-in-Ok-clause-has
returns-in-Ok-clause-has g c = λ columns left of.
    has_text _ _ status.NotComplete left _ _ _ (c.as_bytes.ensures.value ∙ c.in-Ok.ensures columns of) (c.write_and_end.ensures.has left)

pub returns-in-Err-clause-has : goal.returns-in-Err-clause-has
returns-in-Err-clause-has g c = λ columns left of.
    writes_none (missing_line c.args.n (residues_text columns.list (residues_at c.args.rest.now))) status.NotComplete status.Memory _ left (inl refl)
