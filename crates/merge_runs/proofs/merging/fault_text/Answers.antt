use Rattle.std.proofs.Common.{string_bytes, ◌≡◌, sym, subst}
use Rattle.std.specs.Prelude.{IfOk}
use Rattle.column_order.specs.Columns.{ColumnList}
use Rattle.file_model.specs.TableOf.{IsTableOf}
use Rattle.share_core.specs.declared.events.Refusal.TheVariants.{Share}
use Rattle.merge_runs.specs.declared.taking.NotAShare.TheVariants.{Refused}
use Rattle.merge_runs.specs.Runs.{file_line}
use Rattle.merge_runs.specs.Inner.{why_of}
use Rattle.merge_runs.proofs.merging.fault_text.Goals as goal

pub returns-in-Missing : goal.returns-in-Missing
returns-in-Missing c =
    subst
    (λ fault. IfOk c.leaves_text.result
    (λ text. (columns : ColumnList) → IsTableOf c.args.params.now columns
    → string_bytes text ≡ file_line columns.list c.args.file (why_of (Refused (Share fault)))))
    (sym c.in-Missing.is) c.leaves_text.ensures
