use Rattle.std.proofs.Common.{◌≡◌, length}
use Rattle.quasi_product.specs.Inner.{IsFirstRow}
use Rattle.quasi_product.proofs.rows.first_row.Given as goal

abbrev pub invariant-loop-suffix : goal.invariant-loop-suffix
invariant-loop-suffix g l = (length l.row.items ≡ l.suffix-index) × IsFirstRow (λ cell. cell.items) l.c l.suffixes l.row.items
