-- The columns of the parameters of a table.
use Rattle.std.specs.Prelude.{◌≡◌}
use Rattle.column_order.specs.Columns.{ColumnList}
use Rattle.page_codec.specs.declared.params.Params.{Params}
use Rattle.page_codec.specs.Tests.{mode_of}
use Rattle.table_model.specs.Conversion.{IsTable}

-- the columns of the parameters
pub record IsTableOf (params : Params) (columns : ColumnList) : Type 0 where
  pub table : IsTable params.modulus columns
  pub weight : columns.weight ≡ params.weight
  pub depth : columns.depth ≡ params.depth
  pub mode : columns.preference.mode ≡ mode_of params.order
  pub words : columns.preference.words ≡ params.preferred
