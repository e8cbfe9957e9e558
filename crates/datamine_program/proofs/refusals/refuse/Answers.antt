use Rattle.std.proofs.Common.{Err, refl}
use Rattle.whole_runs.specs.declared.command.WordsFault.TheVariants.{Usage, Param, Count, Terms}
use Rattle.whole_runs.specs.declared.status.Status.TheVariants as status
use Rattle.whole_runs.specs.Texts.{usage_line, param_line, count_line, terms_line}
use Rattle.whole_runs.specs.Works.Work.{Writes}
use Rattle.whole_runs.proofs.Outcomes.{outcome_of}
use Rattle.datamine_program.proofs.refusals.refuse.Goals as goal

pub returns-in-Usage-clause-outcome : goal.returns-in-Usage-clause-outcome
returns-in-Usage-clause-outcome g c =
    rw c.in-Usage.is (λ contents left. outcome_of (Err Usage) contents (Writes usage_line status.Usage) left _ _ _ refl (c.refuse_words.ensures.has left))

pub returns-in-Param-clause-outcome : goal.returns-in-Param-clause-outcome
returns-in-Param-clause-outcome g c =
    let fault = c.in-Param.fault in
    rw c.in-Param.is (λ contents left. outcome_of (Err (Param fault)) contents (Writes (param_line fault) status.Params) left _ _ _ refl (c.refuse_param.ensures.has left))

pub returns-in-Count-clause-outcome : goal.returns-in-Count-clause-outcome
returns-in-Count-clause-outcome g c =
    let count = c.in-Count.count in
    rw c.in-Count.is (λ contents left. outcome_of (Err (Count count)) contents (Writes (count_line count) status.Params) left _ _ _ refl (c.refuse_number.ensures.has left))

pub returns-in-Terms-clause-outcome : goal.returns-in-Terms-clause-outcome
returns-in-Terms-clause-outcome g c =
    let terms = c.in-Terms.terms in
    rw c.in-Terms.is
    (λ contents left. outcome_of (Err (Terms terms)) contents (Writes (terms_line terms) status.Params) left _ _ _ refl (c.refuse_number-in-Terms.ensures.has left))
