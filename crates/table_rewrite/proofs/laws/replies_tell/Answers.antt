use Rattle.table_rewrite.proofs.LineReplies.{some_reply, one_reply, classes_told}
use Rattle.table_rewrite.proofs.laws.replies_tell.Goals as goal

pub returns-clause-some : goal.returns-clause-some
returns-clause-some c = some_reply

pub returns-clause-one : goal.returns-clause-one
returns-clause-one c = one_reply

pub returns-clause-tells : goal.returns-clause-tells
returns-clause-tells c = λ m columns small table converts. classes_told m columns table small
