use Rattle.probe_replies.specs.Inner.{reply_of}
use Rattle.probe_replies.proofs.ReplyLemmas.{some_reply, one_reply}
use Rattle.probe_replies.proofs.StuffleLemmas.{stuffled_value}
use Rattle.probe_replies.proofs.laws.probe_laws.Goals as goal

pub returns-clause-some : goal.returns-clause-some
returns-clause-some c = λ m n line. (reply_of m n line, some_reply m n line)

pub returns-clause-one : goal.returns-clause-one
returns-clause-one c = one_reply

pub returns-clause-stuffle : goal.returns-clause-stuffle
returns-clause-stuffle c = stuffled_value
