use Rattle.linear_model.proofs.ReducedLists.{lead_of_span}
use Rattle.linear_model.proofs.ForwardLists.{same_by_leads, coefficients_agree}
use Rattle.linear_model.proofs.laws.leads_of_a_span.Goals as goal

pub returns-clause-lead : goal.returns-clause-lead
returns-clause-lead c = lead_of_span

pub returns-clause-rows : goal.returns-clause-rows
returns-clause-rows c = same_by_leads

pub returns-clause-coefficients : goal.returns-clause-coefficients
returns-clause-coefficients c = coefficients_agree
