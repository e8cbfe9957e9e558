use Rattle.std.proofs.Common.{refl}
use Rattle.zeta_model.proofs.LetterSteps.{prod-empty_second, shuffle_of-letters, stuffle_of-letters}
use Rattle.zeta_model.proofs.laws.letter_laws.Goals as goal

pub returns-clause-empty : goal.returns-clause-empty
returns-clause-empty c L v = refl

pub returns-clause-empty_second : goal.returns-clause-empty_second
returns-clause-empty_second c = prod-empty_second

pub returns-clause-shuffle : goal.returns-clause-shuffle
returns-clause-shuffle c = shuffle_of-letters

pub returns-clause-stuffle : goal.returns-clause-stuffle
returns-clause-stuffle c = stuffle_of-letters
