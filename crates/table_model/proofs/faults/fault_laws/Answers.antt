use Rattle.table_model.proofs.FindingFaults.{converts_or_fault, unbroken_or_breaks, verdict_exists}
use Rattle.table_model.proofs.FirstFaults.{not_invertible_unique, first_break, reduced_everywhere, everywhere_reduced}
use Rattle.table_model.proofs.Verdicts.{verdict_unique}
use Rattle.table_model.proofs.faults.fault_laws.Goals as goal

pub returns-clause-not_invertible : goal.returns-clause-not_invertible
returns-clause-not_invertible c = not_invertible_unique

pub returns-clause-one_break : goal.returns-clause-one_break
returns-clause-one_break c = first_break

pub returns-clause-places : goal.returns-clause-places
returns-clause-places c m count lead rows = (reduced_everywhere m count lead rows, everywhere_reduced m count lead rows)

pub returns-clause-one_verdict : goal.returns-clause-one_verdict
returns-clause-one_verdict c = verdict_unique

pub returns-clause-converts : goal.returns-clause-converts
returns-clause-converts c = converts_or_fault

pub returns-clause-breaks : goal.returns-clause-breaks
returns-clause-breaks c = unbroken_or_breaks

pub returns-clause-verdict : goal.returns-clause-verdict
returns-clause-verdict c = verdict_exists
