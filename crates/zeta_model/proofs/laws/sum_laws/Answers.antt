use Rattle.zeta_model.specs.Sums.{single}
use Rattle.zeta_model.proofs.SumLemmas.{difference-plus, continued-append}
use Rattle.zeta_model.proofs.SameCounts.{sum_of-count_by, sums-SameWords}
use Rattle.zeta_model.proofs.laws.sum_laws.Goals as goal

pub returns-clause-places : goal.returns-clause-places
returns-clause-places c = sum_of-count_by

pub returns-clause-same : goal.returns-clause-same
returns-clause-same c us vs = (λ same t. same (λ w. single w t), sums-SameWords us vs)

pub returns-clause-difference : goal.returns-clause-difference
returns-clause-difference c = difference-plus

pub returns-clause-continued : goal.returns-clause-continued
returns-clause-continued c = continued-append
