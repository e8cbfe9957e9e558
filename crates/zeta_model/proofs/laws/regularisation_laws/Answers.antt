use Rattle.std.proofs.Common.{refl}
use Rattle.zeta_model.proofs.RegularisedWords.{regularised}
use Rattle.zeta_model.proofs.RegularValues.{reg_of-y_word, reg_of-begins_with_x, reg_of-only_y}
use Rattle.zeta_model.proofs.SumLemmas.{reg_of_sum-from_x}
use Rattle.zeta_model.proofs.RegularWords.{reg_of-words}
use Rattle.zeta_model.proofs.laws.regularisation_laws.Goals as goal

pub returns-clause-identity : goal.returns-clause-identity
returns-clause-identity c = regularised

pub returns-clause-last_term : goal.returns-clause-last_term
returns-clause-last_term c = reg_of-y_word

pub returns-clause-from_x : goal.returns-clause-from_x
returns-clause-from_x c = reg_of-begins_with_x

pub returns-clause-only_y : goal.returns-clause-only_y
returns-clause-only_y c = reg_of-only_y

pub returns-clause-empty : goal.returns-clause-empty
returns-clause-empty c m t = refl

pub returns-clause-from_x_sum : goal.returns-clause-from_x_sum
returns-clause-from_x_sum c = reg_of_sum-from_x

pub returns-clause-words : goal.returns-clause-words
returns-clause-words c = reg_of-words
