use Rattle.linear_model.proofs.ForwardLists.{reduced_is_forward, normal_form_unique, in_span_iff}
use Rattle.linear_model.proofs.Sweeps.{normal_form_exists}
use Rattle.linear_model.proofs.laws.normal_forms_are_unique.Goals as goal

pub returns-clause-reduced : goal.returns-clause-reduced
returns-clause-reduced c = reduced_is_forward

pub returns-clause-exists : goal.returns-clause-exists
returns-clause-exists c = λ m n lead rows pos forward p. normal_form_exists m lead rows n p pos forward

pub returns-clause-unique : goal.returns-clause-unique
returns-clause-unique c = normal_form_unique

pub returns-clause-zero : goal.returns-clause-zero
returns-clause-zero c = in_span_iff
