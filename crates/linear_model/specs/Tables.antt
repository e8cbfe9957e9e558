-- A list of rows as a table of numbers: row behind row, `width` numbers each.
use Rattle.std.specs.Prelude.{ℕ, ◌+◌, ◌*◌, List, slice_index, nat_lt, if◌then◌else◌}

-- what row i has at a column, and 0 past the end of the row or of the table
abbrev pub entry_of : ℕ → List ℕ → ℕ → ℕ → ℕ
entry_of width table i col = if nat_lt col width then slice_index table (i * width + col) else 0
