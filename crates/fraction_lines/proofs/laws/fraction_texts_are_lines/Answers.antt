use Rattle.fraction_lines.proofs.ReadingBack.{texts_read_back}
use Rattle.fraction_lines.proofs.laws.fraction_texts_are_lines.Goals as goal

pub returns : goal.returns
returns c = record { reads_back = texts_read_back }
