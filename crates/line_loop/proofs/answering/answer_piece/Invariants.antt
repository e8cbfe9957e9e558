use Rattle.std.proofs.Common.{◌≡◌, ◌++◌, ◌-◌, ◌≤◌, length, drop}
use Rattle.line_loop.specs.Lines.{answers, cut_from}
use Rattle.line_loop.proofs.answering.answer_piece.Given as goal

abbrev pub invariant-loop-length : goal.invariant-loop-length
invariant-loop-length g l = record {
  within : l.at ≤ length l.piece;
  replies : l.replies.items ++ answers (g.R.Replier.reply_to l.replier) (cut_from l.line.items (drop l.at l.piece)).0
      ≡ l.fn.replies.items ++ answers (g.R.Replier.reply_to l.replier) (cut_from l.fn.line.items l.piece).0;
  line : (cut_from l.line.items (drop l.at l.piece)).1 ≡ (cut_from l.fn.line.items l.piece).1;
}

abbrev pub decreases-loop-length : goal.decreases-loop-length
decreases-loop-length g l = length l.piece - l.at
