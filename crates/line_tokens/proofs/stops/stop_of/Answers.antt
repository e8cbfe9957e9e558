use Rattle.std.proofs.Common.{◌≡◌, ap, sym, ◌∙◌, subst, arith, length}
use Rattle.line_tokens.specs.Prefixes.{Accepted, IsStop}
use Rattle.line_tokens.proofs.StopLemmas.{going_begins, going_on, stuck, ended}
use Rattle.line_tokens.proofs.stops.stop_of.Goals as goal

pub loop-at-init : goal.loop-at-init
loop-at-init g c = going_begins g.P.Places.machine c.args.start c.args.line.now

pub loop-at-preserved : goal.loop-at-preserved
loop-at-preserved g c =
    going_on g.P.Places.machine c.args.start c.args.line.now c.loop-at.spot c.in-Some.next c.loop-at.at c.loop-at-test.true
    (sym c.in-Some.ensures) c.loop-at.invariant

pub returns-in-None : goal.returns-in-None
returns-in-None g c =
    stuck g.P.Places.machine c.args.start c.args.line.now g.met.P.Places.productive c.loop-at.spot c.loop-at.at c.loop-at-test.true
    (sym c.in-None.ensures) c.loop-at.invariant

pub returns-then-ends : goal.returns-then-ends
returns-then-ends g c =
    let m = g.P.Places.machine in
    let e = ended m c.args.start c.args.line.now g.met.P.Places.productive c.loop-at.spot c.loop-at.at (omega arith) c.loop-at.invariant in
    e.0 ∙ ap m.ends (sym c.place.ensures) ∙ sym c.ends.ensures ∙ c.if-ends.true

pub returns-else-ends : goal.returns-else-ends
returns-else-ends g c =
    let m = g.P.Places.machine in
    let line = c.args.line.now in
    let i : c.loop-at.at ≡ length line = omega arith in
    let e = ended m c.args.start line g.met.P.Places.productive c.loop-at.spot c.loop-at.at i c.loop-at.invariant in
    subst (IsStop (Accepted m c.args.start) line) i (e.1 (ap m.ends (sym c.place.ensures) ∙ sym c.ends.ensures ∙ c.if-ends.false))
