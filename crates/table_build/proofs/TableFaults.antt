-- Why the table of parameters is not made.
use Rattle.std.specs.Prelude.{◌≡◌, ℕ, List, IsTrue}
use Rattle.zeta_model.specs.Words.{is_admissible}
use Rattle.std.proofs.Common.{refl, subst}
use Rattle.zeta_model.specs.declared.Letter.{Letter}
use Rattle.column_order.specs.Columns.{ColumnList}
use Rattle.page_codec.specs.declared.params.Params.{Params}
use Rattle.lyndon_polys.specs.declared.fault.LyndonFault.{LyndonFault}
use Rattle.lyndon_polys.specs.declared.fault.LyndonFault.TheVariants.{NoInverse, Memory}
use Rattle.table_model.specs.Faults.{IsNotInvertible}
use Rattle.file_model.specs.TableOf.{IsTableOf}
use Rattle.table_build.specs.declared.fault.BuildFault.{BuildFault}
use Rattle.table_build.specs.declared.fault.BuildFault.TheVariants as built
use Rattle.table_build.specs.declared.fault.WorkFault.{WorkFault}
use Rattle.table_build.specs.declared.fault.WorkFault.TheVariants as stopped
use Rattle.table_build.specs.Faults.{build_fault, table_fault, IsTableFault}

-- the first word at which it does not convert
pub table_cause : (params : Params) (m : ℕ) (columns : ColumnList) → m ≡ params.modulus → IsTableOf params columns → (fault : LyndonFault)
    → ((value : ℕ) (word : List Letter) → fault ≡ NoInverse value word → IsNotInvertible m columns word value) → IsTableFault params (table_fault fault)
table_cause params m columns same of (NoInverse value word) h = (columns, of, subst (λ k. IsNotInvertible k columns word value) same (h value word refl))
table_cause params m columns same of (Memory fault) h = tt

-- the word that is told is admissible
pub told_word : (params : Params) (fault : BuildFault) → IsTableFault params fault → (value : ℕ) (word : List Letter) → fault ≡ built.NoInverseWord value word
    → IsTrue (is_admissible word)
told_word params fault is value word e =
    let told : IsTableFault params (built.NoInverseWord value word) = subst (IsTableFault params) e is in told.2.reached.word.admissible

-- work on pages tells no word
pub no_word : (fault : WorkFault) (value : ℕ) (word : List Letter) → ¬ (build_fault fault ≡ built.NoInverseWord value word)
no_word stopped.DiskFault value word e = cc
no_word (stopped.BadPage i) value word e = cc
no_word (stopped.NoInverse residue n) value word e = cc
no_word (stopped.Differs i) value word e = cc
no_word (stopped.Memory fault) value word e = cc
