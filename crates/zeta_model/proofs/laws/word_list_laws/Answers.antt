use Rattle.zeta_model.proofs.WordListLaws.{admissible_within-whole, admissible_within-increases, count-of_depth, length-admissible_within}
use Rattle.zeta_model.proofs.laws.word_list_laws.Goals as goal

pub returns-clause-whole : goal.returns-clause-whole
returns-clause-whole c = admissible_within-whole

pub returns-clause-increases : goal.returns-clause-increases
returns-clause-increases c = admissible_within-increases

pub returns-clause-of_depth : goal.returns-clause-of_depth
returns-clause-of_depth c = count-of_depth

pub returns-clause-count : goal.returns-clause-count
returns-clause-count c = length-admissible_within
