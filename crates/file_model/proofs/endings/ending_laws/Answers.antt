use Rattle.file_model.proofs.LeftFiles.{built_file, broken_file}
use Rattle.file_model.proofs.OneAnswer.{one_answer}
use Rattle.file_model.proofs.PrefixEnds.{word_told, relation_told, end_told_of}
use Rattle.file_model.proofs.GoneOn.{has_gone_on}
use Rattle.file_model.proofs.endings.ending_laws.Goals as goal

pub returns-clause-one : goal.returns-clause-one
returns-clause-one c = one_answer

pub returns-clause-word : goal.returns-clause-word
returns-clause-word c = λ params fits columns of k bytes p. word_told params columns of fits k bytes p

pub returns-clause-relation : goal.returns-clause-relation
returns-clause-relation c = λ params fits columns of converts k bytes p. relation_told params columns of fits k bytes p converts

pub returns-clause-end : goal.returns-clause-end
returns-clause-end c = λ params fits columns of converts un k bytes p pages are.
    end_told_of params columns of fits k bytes p converts un pages are

pub returns-clause-built : goal.returns-clause-built
returns-clause-built c = built_file

pub returns-clause-broken : goal.returns-clause-broken
returns-clause-broken c = broken_file

pub returns-clause-goes_on : goal.returns-clause-goes_on
returns-clause-goes_on c = has_gone_on
