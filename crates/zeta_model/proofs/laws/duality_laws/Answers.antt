use Rattle.zeta_model.proofs.DualityLaws.{dual_of-dual_of, length-dual_of, is_admissible-dual_of, representative_of-dual_of, representative_cases}
use Rattle.zeta_model.proofs.DepthLemmas.{depth_of-dual_of}
use Rattle.zeta_model.proofs.laws.duality_laws.Goals as goal

pub returns-clause-involution : goal.returns-clause-involution
returns-clause-involution c = dual_of-dual_of

pub returns-clause-weight : goal.returns-clause-weight
returns-clause-weight c = length-dual_of

pub returns-clause-admissible : goal.returns-clause-admissible
returns-clause-admissible c = is_admissible-dual_of

pub returns-clause-representative : goal.returns-clause-representative
returns-clause-representative c = representative_of-dual_of

pub returns-clause-depth : goal.returns-clause-depth
returns-clause-depth c = depth_of-dual_of

pub returns-clause-either : goal.returns-clause-either
returns-clause-either c = representative_cases
