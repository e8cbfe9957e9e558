-- Rows that are combinations of named relations.
use Rattle.std.specs.Prelude.{ℕ, List, length, slice_get}
use Rattle.zeta_model.specs.Sums.{Sum, SameSum}
use Rattle.sparse_rows.specs.Entries.{entry_of}
use Rattle.column_order.specs.Columns.{ColumnList}
use Rattle.relation_list.specs.declared.names.RelName.{RelName}
use Rattle.table_model.specs.MonomialWords.{words_of_row, sum_combination}
use Rattle.table_model.specs.ListedSpan.{value_where}

-- the residue that pairs of a page have at each number, and 0 where they have none
abbrev pub residues_at : List (ℕ × ℕ) → ℕ → ℕ
residues_at pairs = entry_of (λ k. k) (λ v. v) pairs

-- the value of the name at place n, and the zero sum past the last name
abbrev pub named_values : ℕ → List RelName → ℕ → Sum
named_values m names n = value_where m (slice_get names n)

-- the words of the row are the values of the names, each times its residue in the combination
abbrev pub IsCertified : ℕ → ColumnList → List RelName → (ℕ → ℕ) → (ℕ → ℕ) → Type 0
IsCertified m columns names row combination =
    SameSum m (words_of_row columns.list row) (sum_combination (length names) (named_values m names) combination)
