-- Why the table of parameters is not made, or the work on it stops.
use Rattle.std.specs.Prelude.{◌≡◌, ℕ, List}
use Rattle.std.proofs.Common.{refl, subst}
use Rattle.zeta_model.specs.declared.Letter.{Letter}
use Rattle.column_order.specs.Columns.{ColumnList}
use Rattle.page_codec.specs.declared.params.Params.{Params}
use Rattle.lyndon_polys.specs.declared.fault.LyndonFault.{LyndonFault}
use Rattle.lyndon_polys.specs.declared.fault.LyndonFault.TheVariants as table
use Rattle.table_model.specs.Conversion.{Converts}
use Rattle.table_model.specs.Faults.{IsNotInvertible}
use Rattle.file_model.specs.TableOf.{IsTableOf}
use Rattle.file_model.proofs.ParamColumns.{same_columns}
use Rattle.share_model.specs.declared.share.ShareId.{ShareId}
use Rattle.share_model.specs.declared.fault.ShareFault.{ShareFault}
use Rattle.share_model.specs.declared.fault.ShareFault.TheVariants.{NoInverseWord, NoInverseRelation, BadRow, NotReduced, Missing, Memory}
use Rattle.share_build.specs.Refusals.{BreaksAt, IsBuildRefusal}
use Rattle.share_build.specs.Inner.{table_fault, HasCause}

-- the first word at which it does not convert
pub table_cause : (params : Params) (id : ShareId) (m : ℕ) (columns : ColumnList) → m ≡ params.modulus → IsTableOf params columns → (fault : LyndonFault)
    → ((value : ℕ) (word : List Letter) → fault ≡ table.NoInverse value word → IsNotInvertible m columns word value)
    → IsBuildRefusal params id (table_fault fault)
table_cause params id m columns same of (table.NoInverse value word) h = λ others are.
    subst (λ c. IsNotInvertible params.modulus c word value) (same_columns params columns others of are)
    (subst (λ k. IsNotInvertible k columns word value) same (h value word refl))
table_cause params id m columns same of (table.Memory fault) h = tt

-- the relation at which the work breaks
pub work_cause : (params : Params) (id : ShareId) (m : ℕ) (columns : ColumnList) → m ≡ params.modulus → IsTableOf params columns
    → Converts params.modulus columns → (fault : ShareFault) → HasCause (λ value n. BreaksAt m columns id.index id.of n value) fault
    → IsBuildRefusal params id fault
work_cause params id m columns same of converts (NoInverseWord value word) h = absurd h
work_cause params id m columns same of converts (NoInverseRelation value n) h = λ others are.
    subst (λ c. Converts params.modulus c × BreaksAt params.modulus c id.index id.of n value) (same_columns params columns others of are)
    (converts, subst (λ k. BreaksAt k columns id.index id.of n value) same h)
work_cause params id m columns same of converts (BadRow i) h = h
work_cause params id m columns same of converts (NotReduced i) h = h
work_cause params id m columns same of converts (Missing n rest) h = h
work_cause params id m columns same of converts (Memory fault) h = tt
