use Rattle.page_codec.proofs.KnownRows.{known_rows, known_combinations, row_increases}
use Rattle.page_codec.proofs.laws.row_laws.Goals as goal

pub returns : goal.returns
returns c = record { rows = known_rows; combinations = known_combinations; increasing = row_increases }
