use Rattle.std.proofs.Common.{◌≡◌, ◌++◌, drop, string_bytes}
use Rattle.whole_runs.specs.Texts.{name_lines}
use Rattle.datamine_program.proofs.list.lines_of.Given as goal

abbrev pub invariant-loop-number : goal.invariant-loop-number
invariant-loop-number l = string_bytes l.lines ++ name_lines l.number (drop l.number l.names) ≡ name_lines 0 l.names
