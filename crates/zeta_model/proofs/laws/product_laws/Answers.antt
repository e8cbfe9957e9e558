use Rattle.zeta_model.proofs.ProductLaws.{prod_commutes, prod_associates}
use Rattle.zeta_model.proofs.ShuffleLetters.{shuffle_laws}
use Rattle.zeta_model.proofs.StuffleLetters.{stuffle_laws}
use Rattle.zeta_model.proofs.ProductWords.{prod-covered, length-prod}
use Rattle.zeta_model.proofs.ProductDepths.{depth_of-shuffle, depth_of-stuffle}
use Rattle.zeta_model.proofs.laws.product_laws.Goals as goal

pub returns-clause-commutes : goal.returns-clause-commutes
returns-clause-commutes c = prod_commutes

pub returns-clause-associates : goal.returns-clause-associates
returns-clause-associates c = prod_associates

pub returns-clause-shuffle : goal.returns-clause-shuffle
returns-clause-shuffle c = shuffle_laws

pub returns-clause-stuffle : goal.returns-clause-stuffle
returns-clause-stuffle c = stuffle_laws

pub returns-clause-covered : goal.returns-clause-covered
returns-clause-covered c = prod-covered

pub returns-clause-weight : goal.returns-clause-weight
returns-clause-weight c = length-prod

pub returns-clause-shuffle_depth : goal.returns-clause-shuffle_depth
returns-clause-shuffle_depth c = depth_of-shuffle

pub returns-clause-stuffle_depth : goal.returns-clause-stuffle_depth
returns-clause-stuffle_depth c = depth_of-stuffle
