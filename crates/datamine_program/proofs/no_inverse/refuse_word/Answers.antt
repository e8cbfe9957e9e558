use Rattle.std.proofs.Common.{inr, refl}
use Rattle.whole_runs.specs.declared.status.Status.TheVariants as status
use Rattle.whole_runs.specs.Texts.{word_line}
use Rattle.whole_runs.proofs.Outcomes.{writes_all, writes_in_part}
use Rattle.datamine_program.proofs.no_inverse.refuse_word.Goals as goal

pub returns-in-Ok-clause-has : goal.returns-in-Ok-clause-has
returns-in-Ok-clause-has g c = λ left. writes_all (word_line c.args.value c.args.word) status.NoInverse _ _ left c.in-Ok.ensures.ok

pub returns-in-Err-clause-has : goal.returns-in-Err-clause-has
returns-in-Err-clause-has g c =
    λ left. writes_in_part (word_line c.args.value c.args.word) status.NoInverse _ _ left status.WriteFault (inr (inr (inr refl))) c.in-Err.ensures.err
