use Rattle.file_model.specs.Prefixes.{HasPages}
use Rattle.file_model.proofs.StayingBytes.{stays_on, stays_same, stays_crashed}
use Rattle.file_model.proofs.staying.staying_laws.Goals as goal

pub returns-clause-on : goal.returns-clause-on
returns-clause-on c = λ params k. stays_on (HasPages params k)

pub returns-clause-same : goal.returns-clause-same
returns-clause-same c = λ params k. stays_same (HasPages params k)

pub returns-clause-crashed : goal.returns-clause-crashed
returns-clause-crashed c = λ params k. stays_crashed (HasPages params k)
