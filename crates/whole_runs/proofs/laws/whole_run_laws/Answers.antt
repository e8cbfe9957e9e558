use Rattle.whole_runs.proofs.OneAsk.{one_ask}
use Rattle.whole_runs.proofs.OneWork.{one_work}
use Rattle.whole_runs.proofs.OneCopy.{one_work_over, work_over}
use Rattle.whole_runs.proofs.SomeWork.{some_work}
use Rattle.whole_runs.proofs.ReduceTells.{reduce_tells}
use Rattle.whole_runs.proofs.RewriteTells.{check_tells, rewrite_tells, rational_tells}
use Rattle.whole_runs.proofs.BuildTells.{build_tells, resume_tells}
use Rattle.whole_runs.proofs.CopyTells.{migrate_tells}
use Rattle.whole_runs.proofs.laws.whole_run_laws.Goals as goal

pub returns-clause-one_ask : goal.returns-clause-one_ask
returns-clause-one_ask c = one_ask

pub returns-clause-one_work : goal.returns-clause-one_work
returns-clause-one_work c = one_work

pub returns-clause-work_over : goal.returns-clause-work_over
returns-clause-work_over c = work_over

pub returns-clause-one_work_over : goal.returns-clause-one_work_over
returns-clause-one_work_over c = one_work_over

pub returns-clause-some_work : goal.returns-clause-some_work
returns-clause-some_work c = some_work

pub returns-clause-reduce : goal.returns-clause-reduce
returns-clause-reduce c = reduce_tells

pub returns-clause-check : goal.returns-clause-check
returns-clause-check c = check_tells

pub returns-clause-rewrite : goal.returns-clause-rewrite
returns-clause-rewrite c = rewrite_tells

pub returns-clause-rational : goal.returns-clause-rational
returns-clause-rational c = rational_tells

pub returns-clause-build : goal.returns-clause-build
returns-clause-build c = build_tells

pub returns-clause-resume : goal.returns-clause-resume
returns-clause-resume c = resume_tells

pub returns-clause-migrate : goal.returns-clause-migrate
returns-clause-migrate c = migrate_tells
