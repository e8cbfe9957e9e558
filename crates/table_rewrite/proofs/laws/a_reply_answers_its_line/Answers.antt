use Rattle.table_rewrite.proofs.LineReplies.{reply_answers}
use Rattle.table_rewrite.proofs.laws.a_reply_answers_its_line.Goals as goal

pub returns : goal.returns
returns g c = record { reply = reply_answers }
