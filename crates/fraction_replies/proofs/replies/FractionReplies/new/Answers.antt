use Rattle.fraction_replies.proofs.TextSteps.{forms_reply}
use Rattle.fraction_replies.proofs.replies.FractionReplies.new.Goals as goal

pub returns : goal.returns
returns g c =
    let ring = c.args.table.ring in
    record {
      replies = forms_reply g.R.Ring.zero (g.R.Ring.has ring) (g.R.Ring.value ring) (g.R.Ring.modulus ring) c.args.table.columns c.args.rows.now.rows
          c.in_ok-forms.forms.forms c.in_ok-forms.ensures.table c.in_ok-forms.ensures.forms;
    }
