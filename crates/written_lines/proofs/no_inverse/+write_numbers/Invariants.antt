use Rattle.std.proofs.Common.{length}
use Rattle.written_lines.proofs.no_inverse.+write_numbers.Given as goal

abbrev pub decreases-write_numbers : goal.decreases-write_numbers
decreases-write_numbers g l = length l.word
