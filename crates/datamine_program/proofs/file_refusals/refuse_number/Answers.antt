use Rattle.std.proofs.Common.{◌++◌, inr, refl}
use Rattle.std.specs.Prelude.{decimal}
use Rattle.whole_runs.specs.declared.status.Status.TheVariants as status
use Rattle.whole_runs.proofs.Outcomes.{writes_all, writes_in_part}
use Rattle.datamine_program.proofs.file_refusals.refuse_number.Goals as goal

pub returns-in-Ok-clause-has : goal.returns-in-Ok-clause-has
returns-in-Ok-clause-has g c =
    λ left. writes_all (c.args.first.now ++ (decimal c.args.number ++ c.args.second.now)) c.args.end _ _ left c.in-Ok.ensures.ok

pub returns-in-Err-clause-has : goal.returns-in-Err-clause-has
returns-in-Err-clause-has g c =
    λ left. writes_in_part (c.args.first.now ++ (decimal c.args.number ++ c.args.second.now)) c.args.end _ _ left status.WriteFault
    (inr (inr (inr refl))) c.in-Err.ensures.err
