use Rattle.std.proofs.Common.{◌≡◌, ◌≤◌, []}
use Rattle.line_loop.specs.Lines.{input_limit}
use Rattle.line_loop.proofs.Under.{Under}
use Rattle.line_loop.proofs.conversation.converse_in.Given as goal

abbrev pub invariant-loop-count : goal.invariant-loop-count
invariant-loop-count g l = record {
  under : Under input_limit (g.R.Replier.reply_to l.replier) l.room (g.S.Source.left l.fn.source) (g.S.Source.left l.source) (g.K.Sink.taken l.fn.sink)
      (g.K.Sink.taken l.sink) l.line.items;
  emptied : l.replies.items ≡ [];
  source_later : g.S.Source.faults l.fn.source ≤ g.S.Source.faults l.source;
  sink_later : g.K.Sink.faults l.fn.sink ≤ g.K.Sink.faults l.sink;
}

abbrev pub decreases-loop-count : goal.decreases-loop-count
decreases-loop-count g l = l.room
