use Rattle.fraction_replies.proofs.LineFractions.{some_reply, one_reply, classes_told}
use Rattle.fraction_replies.proofs.laws.fraction_reply_laws.Goals as goal

pub returns-clause-some : goal.returns-clause-some
returns-clause-some c = some_reply

pub returns-clause-one : goal.returns-clause-one
returns-clause-one c = one_reply

pub returns-clause-tells : goal.returns-clause-tells
returns-clause-tells c = classes_told
