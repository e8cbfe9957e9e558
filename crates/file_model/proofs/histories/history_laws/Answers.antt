use Rattle.file_model.proofs.PastSteps.{images_are_prefixes, pages_stay, file_left, pages_left, run_continues, run_ends}
use Rattle.file_model.proofs.histories.history_laws.Goals as goal

pub returns-clause-prefix : goal.returns-clause-prefix
returns-clause-prefix c = images_are_prefixes

pub returns-clause-stay : goal.returns-clause-stay
returns-clause-stay c = pages_stay

pub returns-clause-file : goal.returns-clause-file
returns-clause-file c = file_left

pub returns-clause-broken : goal.returns-clause-broken
returns-clause-broken c = pages_left

pub returns-clause-runs : goal.returns-clause-runs
returns-clause-runs c = run_continues

pub returns-clause-ends : goal.returns-clause-ends
returns-clause-ends c = run_ends
