use Rattle.std.proofs.Common.{◌+◌, ◌-◌, ◌*◌, ◌++◌}
use Rattle.std.specs.Prelude.{string_bytes}
use Rattle.line_samples.specs.Samples.{line_from, state_after, terms_drawn}
use Rattle.line_samples.proofs.LineLemmas.{IsUnder}
use Rattle.line_samples.proofs.lines.push_line.Given as goal

abbrev pub invariant-loop-i : goal.invariant-loop-i
invariant-loop-i l = IsUnder l.words (string_bytes l.fn.line ++ line_from l.words l.fn.draws.state)
    (state_after (1 + 2 * terms_drawn l.fn.draws.state) l.fn.draws.state) (l.more - l.i) l.draws.state (string_bytes l.line)
