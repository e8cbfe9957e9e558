use Rattle.zeta_model.proofs.RegularisedWords.{regularised}
use Rattle.regularise_core.proofs.KnownSums.{continued_same}
use Rattle.regularise_core.proofs.RegularSums.{reg_of_sum-admissible, reg_of_sum-words}
use Rattle.zeta_model.specs.Regularise.{reg_of}
use Rattle.regularise_core.proofs.laws.reg_laws.Goals as goal

pub returns-clause-admissible : goal.returns-clause-admissible
returns-clause-admissible g c ring = reg_of_sum-admissible (g.R.Ring.value ring) (g.R.Ring.modulus ring)

pub returns-clause-identity : goal.returns-clause-identity
returns-clause-identity g c = regularised

pub returns-clause-coefficients : goal.returns-clause-coefficients
returns-clause-coefficients g c m terms others pos same = continued_same m pos terms others same (reg_of m)

pub returns-clause-words : goal.returns-clause-words
returns-clause-words g c = reg_of_sum-words
