use Rattle.linear_model.proofs.ReducedPairs.{counts_agree, leads_agree, rows_agree}
use Rattle.linear_model.proofs.laws.reduced_lists_are_unique.Goals as goal

pub returns-clause-counts : goal.returns-clause-counts
returns-clause-counts c = counts_agree

pub returns-clause-leads : goal.returns-clause-leads
returns-clause-leads c = leads_agree

pub returns-clause-rows : goal.returns-clause-rows
returns-clause-rows c = rows_agree
