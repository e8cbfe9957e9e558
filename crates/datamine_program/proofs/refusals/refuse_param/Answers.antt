use Rattle.std.proofs.Common.{inr, refl}
use Rattle.whole_runs.specs.declared.status.Status.TheVariants as status
use Rattle.whole_runs.specs.Texts.{param_line}
use Rattle.whole_runs.proofs.Outcomes.{writes_all, writes_in_part}
use Rattle.datamine_program.proofs.refusals.refuse_param.Goals as goal

pub returns-in-Ok-clause-has : goal.returns-in-Ok-clause-has
returns-in-Ok-clause-has g c = λ left. writes_all (param_line c.args.fault) status.Params _ _ left c.in-Ok.ensures.ok

pub returns-in-Err-clause-has : goal.returns-in-Err-clause-has
returns-in-Err-clause-has g c =
    λ left. writes_in_part (param_line c.args.fault) status.Params _ _ left status.WriteFault (inr (inr (inr refl))) c.in-Err.ensures.err
