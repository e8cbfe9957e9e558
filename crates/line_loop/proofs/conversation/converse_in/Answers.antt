use Rattle.std.proofs.Common.{◌≤◌, ◌≡◌, ◌<◌, inl, inr, ℕ, length, take, subst, arith, length-take}
use Rattle.std.proofs.lemmas.List.{length-take-le}
use Rattle.outside_io.specs.Told.{before_told}
use Rattle.line_loop.specs.Lines.{input_limit}
use Rattle.line_loop.proofs.Under.{fed, fed_cut_short, at_end, over}
use Rattle.line_loop.proofs.conversation.converse_in.Goals as goal

pub returns-then-count-eq0-clause-talks : goal.returns-then-count-eq0-clause-talks
returns-then-count-eq0-clause-talks g c =
    let some : 0 < length c.read.new.buf =
    omega (arith, length-take c.min-size.result c.loop-count.buffer, c.max.ensures, c.min-size.ensures, c.loop-count.auto.buffer, c.requires) in
    at_end input_limit (g.R.Replier.reply_to c.args.replier.now) c.end.result c.loop-count.room _ _ _ _ _ _ c.loop-count.line.items c.loop-count.invariant.under
    (subst (λ (n : ℕ). g.S.Source.left c.loop-count.source
    ≡ before_told (take n c.read.new.buf) (g.S.Source.left c.read.new.self)) c.if-count-eq0.true c.in-Ok.ensures.bytes)
    (c.in-Ok.ensures.end c.if-count-eq0.true some)
    (rw c.deref.ensures.value at c.end.ensures.front) (rw c.deref.ensures.value at c.end.ensures.done) c.end.ensures.which

pub returns-then-room-eq0-clause-talks : goal.returns-then-room-eq0-clause-talks
returns-then-room-eq0-clause-talks g c =
    let taken = length-take-le c.in-Ok.count c.read.new.buf c.in-Ok.ensures.bound in
    let some : 0 < length (take c.in-Ok.count c.read.new.buf) = omega (arith, taken, c.if-count-eq0.false) in
    let lone : length (take c.in-Ok.count c.read.new.buf) ≤ 1 =
    omega (arith, taken, c.in-Ok.ensures.bound, length-take c.min-size.result c.loop-count.buffer, c.max.ensures, c.min-size.ensures, c.if-room-eq0.true) in
    over input_limit (g.R.Replier.reply_to c.args.replier.now) c.too_much.result c.loop-count.room _ _ _ _ _ _ c.loop-count.line.items
    (take c.in-Ok.count c.read.new.buf) c.loop-count.invariant.under c.if-room-eq0.true
    c.in-Ok.ensures.bytes some lone c.too_much.ensures.front c.too_much.ensures.done c.too_much.ensures.which

pub returns-in-Err-clause-talks : goal.returns-in-Err-clause-talks
returns-in-Err-clause-talks g c =
    fed_cut_short input_limit (g.R.Replier.reply_to c.args.replier.now) c.in-Err.ended c.loop-count.room _ _ _ _ _ _ c.loop-count.line.items
    (take c.in-Ok.count c.read.new.buf) c.loop-count.invariant.under
    c.in-Ok.ensures.bytes (omega (arith, c.in-Ok.ensures.bound, length-take-le c.in-Ok.count c.read.new.buf c.in-Ok.ensures.bound, length-take c.min-size.result c.loop-count.buffer, c.max.ensures, c.min-size.ensures, c.if-count-eq0.false, c.if-room-eq0.false))
    c.in-Err.ensures.err (elim c.in-Err.ensures.which [ inl m ↦ inl m | inr w ↦ inr w.0 ])

pub loop-count-preserved : goal.loop-count-preserved
loop-count-preserved g c = record {
  under = fed input_limit (g.R.Replier.reply_to c.args.replier.now) c.loop-count.room c.in-Ok.count _ _ _ _ _ _ c.loop-count.line.items c.feed.new.line.items (take c.in-Ok.count c.read.new.buf) c.loop-count.invariant.under
      c.in-Ok.ensures.bytes (length-take-le c.in-Ok.count c.read.new.buf c.in-Ok.ensures.bound)
      (omega (arith, c.in-Ok.ensures.bound, length-take c.min-size.result c.loop-count.buffer, c.max.ensures, c.min-size.ensures, c.if-count-eq0.false, c.if-room-eq0.false)) c.in_default-feed.ensures.said c.in_default-feed.ensures.line;
  emptied = c.in_default-feed.ensures.emptied;
  source_later = omega (arith, c.loop-count.invariant.source_later, c.read.ensures.cause.later);
  sink_later = omega (arith, c.loop-count.invariant.sink_later, c.feed.ensures.later);
}
