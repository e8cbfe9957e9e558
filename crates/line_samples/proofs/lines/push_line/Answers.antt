use Rattle.std.proofs.Common.{arith}
use Rattle.std.specs.Prelude.{string_bytes}
use Rattle.line_samples.proofs.LineLemmas.{under-first, under-more, under-last, state-last}
use Rattle.line_samples.proofs.lines.push_line.Goals as goal

pub loop-i-init : goal.loop-i-init
loop-i-init c = under-first c.args.words.now (string_bytes c.args.line.now) _ c.args.draws.now.state c.draw-more.new.self.state c.push_term.new.draws.state _
    (omega (arith, c.draw-more.ensures.drawn)) c.draw-more.ensures.state c.in_ok-push_term.ensures.state c.in_ok-push_term.ensures.text

pub loop-i-preserved : goal.loop-i-preserved
loop-i-preserved c =
    under-more c.args.words.now _ (string_bytes c.loop-i.line) (string_bytes c.push_str.new.self) _ _ _ _
    c.loop-i.draws.state c.push_term-in-loop-i.new.draws.state (omega arith)
    c.in_ok-push_str.ensures.bytes c.in_ok-push_term-2.ensures.text c.in_ok-push_term-2.ensures.state c.loop-i.invariant

pub returns-clause-text : goal.returns-clause-text
returns-clause-text c = under-last c.args.words.now _ (string_bytes c.loop-i.line) _ _ c.loop-i.draws.state (omega arith) c.loop-i.invariant

pub returns-clause-state : goal.returns-clause-state
returns-clause-state c = state-last c.args.words.now _ (string_bytes c.loop-i.line) _ _ c.loop-i.draws.state (omega arith) c.loop-i.invariant
