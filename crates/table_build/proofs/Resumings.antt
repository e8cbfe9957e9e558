-- Going on behind the rows that are put back.
use Rattle.std.specs.Prelude.{◌≡◌, ℕ, ◌+◌, ◌*◌, min, Option, Some, None, IfSome, List, length, Result, Ok, Err, IsOk}
use Rattle.std.proofs.Common.{sym, subst}
use Rattle.outside_io.specs.Traces.{Trace}
use Rattle.column_order.specs.Columns.{ColumnList}
use Rattle.page_codec.specs.declared.params.Params.{Params}
use Rattle.table_model.specs.ListedSpan.{count_of}
use Rattle.page_codec.specs.declared.page.Page.{Page}
use Rattle.page_file.specs.Stays.{Leaves}
use Rattle.lyndon_polys.specs.declared.fault.LyndonFault.{LyndonFault}
use Rattle.lyndon_polys.specs.declared.fault.LyndonFault.TheVariants.{NoInverse, Memory}
use Rattle.file_model.specs.Builds.{IsOurs, IsLeft, HasGoneOn}
use Rattle.file_model.proofs.GoneOn.{leaves_gone_on}
use Rattle.table_build.specs.declared.table_file.Built.{Built}
use Rattle.table_build.specs.declared.fault.ResumeFault.{ResumeFault}
use Rattle.table_build.specs.Answers.{figures_of}
use Rattle.table_build.specs.Faults.{IsTableFault, table_fault, word_fault}
use Rattle.table_build.specs.Resumes.{Tells, fault_says, result_says, HasWorked, CanTell}
use Rattle.table_build.specs.Inner.{Course, HasOffered, Holds, IsAt, IsStarted}

-- with the pages of the sealed blocks, the work is behind these blocks
pub started_at : {E : Type 0} (m : ℕ) (value : E → ℕ) (columns : ColumnList) (params : Params) (course : Course) (b first k : ℕ) (numbers : List ℕ)
    (rows : List (List (ℕ × E))) (told mid : Option Trace) → IsStarted m value columns params course b numbers rows told → first ≡ b → k ≡ 1 + first
    → Holds course.pages k mid → IsAt m value columns course first numbers rows mid
started_at m value columns params course b first k numbers rows told mid started same at holds = record {
  offered = subst (λ x. HasOffered m value columns course (min (64 * x) (count_of columns)) numbers rows) (sym same) started.offered;
  holds = subst (λ x. Holds course.pages x mid) at holds;
}

-- ---- what is told before the rows are put back

-- where the table does not convert
pub word_ends : (params : Params) (told : Option Trace) (fault : LyndonFault) → IfSome told (λ t. (sealed : List Page) × IsOurs params t.now.contents sealed)
    → IsTableFault params (table_fault fault) → Tells params told (fault_says (word_fault fault))
word_ends params None (NoInverse value word) ours is = tt
word_ends params (Some t) (NoInverse value word) (sealed, ours) (columns, of, is) = (sealed, columns, ours, of, is)
word_ends params told (Memory fault) ours is = tt

pub word_can_tell : (params : Params) (fault : LyndonFault) → IsTableFault params (table_fault fault) → CanTell (word_fault fault)
word_can_tell params (NoInverse value word) is = is.2.reached.word.admissible
word_can_tell params (Memory fault) is = tt

-- what is left where the work came to its end
pub leaves_on : (params : Params) (old new : Option Trace) (r : Result Built ResumeFault) → Tells params old (result_says r)
    → (HasWorked r → Leaves (λ t bytes. IsLeft params t.now.contents bytes) old new) → IsOk r
    → Leaves (λ t bytes. HasGoneOn params t.now.contents bytes) old new
leaves_on params old new (Ok built) ends left ok = leaves_gone_on params (figures_of built) old new ends (left tt)
leaves_on params old new (Err fault) ends left ok = absurd (cc ok)

-- pages that are ours, however many
pub ours_there : (params : Params) (told : Option Trace) (count : ℕ)
    → IfSome told (λ t. (sealed : List Page) × IsOurs params t.now.contents sealed × (count ≡ length sealed))
    → IfSome told (λ t. (sealed : List Page) × IsOurs params t.now.contents sealed)
ours_there params None count ours = tt
ours_there params (Some t) count (sealed, ours, counted) = (sealed, ours)
