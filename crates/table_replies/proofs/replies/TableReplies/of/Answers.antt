use Rattle.table_replies.proofs.TextSteps.{forms_reply}
use Rattle.table_replies.proofs.replies.TableReplies.of.Goals as goal

pub returns : goal.returns
returns g c =
    let ring = c.args.table.ring in
    record {
      replies = λ rows are.
          forms_reply g.R.Ring.zero (g.R.Ring.has ring) (g.R.Ring.value ring) (g.R.Ring.modulus ring) c.args.table.columns rows c.args.forms.forms
          c.columns.ensures.table are;
    }
