use Rattle.linear_model.proofs.Sweeps.{swept_none, swept_one_more, normal_form_of_swept}
use Rattle.linear_model.proofs.laws.sweeps_leave_normal_forms.Goals as goal

pub returns-clause-start : goal.returns-clause-start
returns-clause-start c = swept_none

pub returns-clause-step : goal.returns-clause-step
returns-clause-step c = swept_one_more

pub returns-clause-end : goal.returns-clause-end
returns-clause-end c = normal_form_of_swept
