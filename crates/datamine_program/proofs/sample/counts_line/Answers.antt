use Rattle.std.proofs.Common.{append_assoc, rules}
use Rattle.datamine_program.proofs.sample.counts_line.Goals as goal

pub returns : goal.returns
returns c = search (rules, append_assoc)
