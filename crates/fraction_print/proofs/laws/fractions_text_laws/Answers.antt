use Rattle.fraction_print.proofs.TextLaws.{some_text, one_text, rows_same}
use Rattle.fraction_print.proofs.laws.fractions_text_laws.Goals as goal

pub returns : goal.returns
returns c = record { some = some_text; one = one_text; rows = rows_same }
