use Rattle.std.proofs.Common.{◌-◌, ◌+◌, subst, arith, length, drop, take}
use Rattle.memchr.specs.Find.{IsFirstByte, is_byte}
use Rattle.line_loop.proofs.Ending.{next_line, replies_kept, replies_done, line_kept, line_done, on_ok_appended, on_ok_so}
use Rattle.line_loop.proofs.answering.answer_piece.Goals as goal

pub loop-length-preserved : goal.loop-length-preserved
loop-length-preserved g c =
    let at = c.loop-length.at in
    let k = c.in-Some.length in
    let found = subst (IsFirstByte (is_byte 10) (take (length c.args.piece.now - at) (drop at c.args.piece.now))) c.in-Some.is c.memchr.ensures in
    record {
      within = omega (arith, (next_line c.loop-length.line.items c.args.piece.now at k c.loop-length.invariant.within found).0);
      replies = replies_kept (g.R.Replier.reply_to c.args.replier.now) c.loop-length.replies.items _ c.loop-length.line.items c.finish_line.new.line.items c.args.piece.now _ at k (at + k - at) c.loop-length.invariant.within (omega arith) found
          c.in_ok-finish_line.ensures.replies c.in_ok-finish_line.ensures.line c.loop-length.invariant.replies;
      line = line_kept c.loop-length.line.items c.finish_line.new.line.items c.args.piece.now _ at k c.loop-length.invariant.within found c.in_ok-finish_line.ensures.line c.loop-length.invariant.line;
    }

pub returns-clause-replies : goal.returns-clause-replies
returns-clause-replies g c =
    let missing = subst (IsFirstByte (is_byte 10)
    (take (length c.args.piece.now - c.loop-length.at) (drop c.loop-length.at c.args.piece.now))) c.in_default.is c.memchr.ensures in
    on_ok_so c.extend_from_slice.result
    (replies_done (g.R.Replier.reply_to c.args.replier.now) c.loop-length.replies.items c.loop-length.line.items c.args.piece.now _ c.loop-length.at missing c.loop-length.invariant.replies)

pub returns-clause-line : goal.returns-clause-line
returns-clause-line g c =
    let missing = subst (IsFirstByte (is_byte 10)
    (take (length c.args.piece.now - c.loop-length.at) (drop c.loop-length.at c.args.piece.now))) c.in_default.is c.memchr.ensures in
    on_ok_appended c.extend_from_slice.result c.loop-length.line.items
    (take (length c.args.piece.now - c.loop-length.at) (drop c.loop-length.at c.args.piece.now)) _ _ c.extend_from_slice.ensures.items
    (line_done c.loop-length.line.items c.args.piece.now _ c.loop-length.at missing c.loop-length.invariant.line)
