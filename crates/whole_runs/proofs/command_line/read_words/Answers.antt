use Rattle.std.proofs.Common.{rules}
use Rattle.whole_runs.proofs.Parameters.{fits_none}
use Rattle.whole_runs.proofs.command_line.read_words.Goals.{in_default-via-then-words-lt2}
use Rattle.whole_runs.proofs.command_line.read_words.Goals.{in_default-via-else-words-lt2+else-words-lt3+else-words-lt4+then-words-lt5}
use Rattle.whole_runs.proofs.command_line.read_words.Goals.{in_default-via-else-words-lt2+else-words-lt3+else-words-lt4+else-words-lt5+else-words-lt6+else-words-lt7+else-words-lt8}
use Rattle.whole_runs.proofs.command_line.read_words.Goals as goal

pub returns-in_default-clause-asked : goal.returns-in_default-clause-asked
returns-in_default-clause-asked c = elim c.in_default.branch [
  | in_default-via-then-words-lt2 w ↦ search (rules, fits_none)
  | in_default-via-else-words-lt2+else-words-lt3+else-words-lt4+then-words-lt5 w ↦ search (rules, fits_none)
  | in_default-via-else-words-lt2+else-words-lt3+else-words-lt4+else-words-lt5+else-words-lt6+else-words-lt7+else-words-lt8 w ↦ search (rules, fits_none)
]
