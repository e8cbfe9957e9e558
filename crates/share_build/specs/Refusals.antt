-- Where a share is made, and why it is not.
use Rattle.std.specs.Prelude.{◌≡◌, ℕ, ◌+◌, ◌*◌, ◌<◌}
use Rattle.column_order.specs.Columns.{ColumnList}
use Rattle.page_codec.specs.declared.params.Params.{Params}
use Rattle.table_model.specs.Conversion.{Converts}
use Rattle.table_model.specs.ReducedRows.{IsUnbroken, BreaksFirst}
use Rattle.table_model.specs.Faults.{IsNotInvertible}
use Rattle.file_model.specs.TableOf.{IsTableOf}
use Rattle.share_model.specs.declared.share.ShareId.{ShareId}
use Rattle.share_model.specs.declared.fault.ShareFault.{ShareFault}
use Rattle.share_model.specs.declared.fault.ShareFault.TheVariants.{NoInverseWord, NoInverseRelation, BadRow, NotReduced, Missing, Memory}
use Rattle.share_model.specs.Dealing.{share_values, share_size}

-- the table converts, and the work on the relations of the share is not broken
abbrev pub GoesThrough : Params → ShareId → Type 0
GoesThrough params id = (columns : ColumnList) → IsTableOf params columns → Converts params.modulus columns
    × IsUnbroken params.modulus columns (share_values params.modulus columns id.index id.of) (share_size columns id.index id.of)

-- the work on the relations of the share is broken, first at its relation n
pub record BreaksAt (m : ℕ) (columns : ColumnList) (index shares n value : ℕ) : Type 0 where
  pub place : ℕ
  pub inside : place < share_size columns index shares
  pub is : n ≡ index + shares * place
  pub breaks : BreaksFirst m columns (share_values m columns index shares) place value

-- the cause of a refusal: the first word at which the table does not convert, the relation at which the work breaks, or want of memory
abbrev pub IsBuildRefusal : Params → ShareId → ShareFault → Type 0
IsBuildRefusal params id (NoInverseWord value word) = (columns : ColumnList) → IsTableOf params columns
    → IsNotInvertible params.modulus columns word value
IsBuildRefusal params id (NoInverseRelation value n) = (columns : ColumnList) → IsTableOf params columns
    → Converts params.modulus columns × BreaksAt params.modulus columns id.index id.of n value
IsBuildRefusal params id (BadRow i) = ⊥
IsBuildRefusal params id (NotReduced i) = ⊥
IsBuildRefusal params id (Missing n rest) = ⊥
IsBuildRefusal params id (Memory fault) = Unit {0}
