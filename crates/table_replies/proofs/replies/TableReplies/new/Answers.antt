use Rattle.table_replies.proofs.replies.TableReplies.new.Goals as goal

pub returns : goal.returns
returns g c = record { replies = c.of.ensures.replies c.args.rows.now.rows c.in_ok-forms.ensures.forms }
