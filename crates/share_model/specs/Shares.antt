-- Shares of a table as values, and what their rows are.
use Rattle.std.specs.Prelude.{ℕ, ◌≤◌, ◌<◌, length, get_or}
use Rattle.std.specs.List.{AllByRecursion}
use Rattle.column_order.specs.Columns.{ColumnList, column_count}
use Rattle.echelon.specs.Lists.{lead_of}
use Rattle.page_codec.specs.Bounds.{IsParams, IsFinalEntry}
use Rattle.page_codec.specs.Places.{FinalInTable}
use Rattle.file_model.specs.Pages.{pairs_of}
use Rattle.file_model.specs.FinalRows.{no_entry}
use Rattle.file_model.specs.TableOf.{IsTableOf}
use Rattle.table_model.specs.ListedSpan.{relation_count}
use Rattle.table_model.specs.Faults.{Verdict}
use Rattle.share_model.specs.Dealing.{IsShareResult, IsShareVerdict}
use Rattle.share_model.specs.declared.share.ShareId.{ShareId}
use Rattle.share_model.specs.declared.share.Share.{Share}

-- one of at most 256 shares
pub record IsShareId (id : ShareId) : Type 0 where
  pub some : 1 ≤ id.of
  pub few : id.of ≤ 256
  pub below : id.index < id.of

-- at most as many rows as the table has columns, as Final pages hold them, with columns, numbers and residues of the table
pub record IsShare (s : Share) : Type 0 where
  pub params : IsParams s.params
  pub id : IsShareId s.id
  pub few : length s.rows ≤ column_count s.params.weight s.params.depth
  pub entries : AllByRecursion IsFinalEntry s.rows
  pub in_table : AllByRecursion (FinalInTable s.params (relation_count s.params.weight s.params.depth)) s.rows

-- row i of a share, zero past the last
abbrev pub share_row : Share → ℕ → ℕ → ℕ
share_row s i = pairs_of ((get_or s.rows i no_entry).row)

abbrev pub share_combination : Share → ℕ → ℕ → ℕ
share_combination s i = pairs_of ((get_or s.rows i no_entry).combination)

-- where row i of a share leads
abbrev pub share_lead : Share → ℕ → ℕ
share_lead s i = lead_of ((get_or s.rows i no_entry).row)

-- the share's rows with their combinations are a result of it, over the columns of its parameters
abbrev pub IsResult : Share → Type 0
IsResult s = (columns : ColumnList) → IsTableOf s.params columns
    → IsShareResult s.params.modulus columns s.id.index s.id.of (length s.rows) (share_lead s) (share_row s) (share_combination s)

-- this is found of the share's rows, over the columns of its parameters
abbrev pub IsFoundOf : Share → Verdict → Type 0
IsFoundOf s v = (columns : ColumnList) → IsTableOf s.params columns
    → IsShareVerdict s.params.modulus columns s.id.index s.id.of (length s.rows) (share_lead s) (share_row s) (share_combination s) v
