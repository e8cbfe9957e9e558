use Rattle.line_loop.specs.Lines.{input_limit}
use Rattle.line_loop.proofs.Under.{never_begun}
use Rattle.line_loop.proofs.Whole.{talks-says}
use Rattle.line_loop.proofs.conversation.answer_lines.Goals as goal

pub returns-in-Ok-clause-says : goal.returns-in-Ok-clause-says
returns-in-Ok-clause-says g c = talks-says input_limit (g.R.Replier.reply_to c.args.replier.now) c.converse_in.result _ _ _ _ c.converse_in.ensures.talks

pub returns-in-Err-clause-talks : goal.returns-in-Err-clause-talks
returns-in-Err-clause-talks g c = never_begun input_limit (g.R.Replier.reply_to c.args.replier.now) _ _

pub returns-in-Err-clause-says : goal.returns-in-Err-clause-says
returns-in-Err-clause-says g c = let reply = g.R.Replier.reply_to c.args.replier.now in
    talks-says input_limit reply _ _ _ _ _ (never_begun input_limit reply _ _)
