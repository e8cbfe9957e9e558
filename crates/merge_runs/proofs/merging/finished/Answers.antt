use Rattle.std.proofs.lemmas.Result.{IfOk-weaker}
use Rattle.share_model.specs.declared.share.Share.{Share}
use Rattle.merge_program.specs.declared.words.TableWords.{TableWords}
use Rattle.std.proofs.Common.{◌≡◌, Err, List, map, string_bytes, ap, ◌∙◌}
use Rattle.page_rows.specs.Written.{written}
use Rattle.lyndon_polys.specs.Tables.{RingTable}
use Rattle.merge_runs.specs.Lines.{merged_lines}
use Rattle.merge_runs.specs.declared.merging.Ending.{Ending}
use Rattle.merge_runs.specs.Runs.{ends, IsFinish}
use Rattle.merge_runs.specs.Inner.{Stands, TellsFault}
use Rattle.merge_runs.proofs.Finishing.{are_merged, gives_merged, gives_fault}
use Rattle.merge_runs.proofs.merging.finished.Goals as goal

pub returns-in_ok-merged_text-in-Ok : goal.returns-in_ok-merged_text-in-Ok
returns-in_ok-merged_text-in-Ok g c = λ merge table counted stands.
    let core = c.args.coordinator.now in
    let own = core.setting.table in
    let ring = own.ring in
    let rows = c.in-Ok.merged.rows.rows in
    let combinations = c.in-Ok.merged.combinations.items in
    let ring-is : c.ring.result.now ≡ ring = c.ring.ensures ∙ ap (λ (t : RingTable g.row.R.Denot). t.ring) c.table-table.ensures.table in
    let columns-is : c.columns.result.now ≡ own.columns =
    c.columns.ensures.columns ∙ ap (λ (t : RingTable g.row.R.Denot). t.columns) c.table-table.ensures.table in
    gives_merged g.R.Ring.modulus g.R.Ring.value core c.table-table.ensures.setting merge table counted stands (map (written (g.R.Ring.value ring)) rows)
    (map (written (g.R.Ring.value ring)) combinations) (string_bytes c.in_ok-merged_text-in-Ok.field-0) c.in-Ok.ensures.all c.in-Ok.ensures.unbroken
    (are_merged g.R.Ring.zero (g.R.Ring.has ring) (g.R.Ring.value ring) (g.met.R.Ring.has_zero ring) (g.met.R.Ring.value_zero ring)
    (g.met.R.Ring.value_injective ring) (g.R.Ring.modulus ring) (g.met.R.Ring.value_below ring) own.columns rows combinations c.in-Ok.ensures.rows
    c.in-Ok.ensures.complete)
    (c.in_ok-merged_text-in-Ok.ensures
    ∙ (λ i. merged_lines (g.R.Ring.modulus (ring-is i)) (columns-is i).list (map (written (g.R.Ring.value (ring-is i))) rows)))

pub returns-in-Err : goal.returns-in-Err
returns-in-Err g c =
    let core = c.args.coordinator.now in
    IfOk-weaker c.not_merged.result (λ (ending : Ending). TellsFault c.in-Err.fault (ends (string_bytes ending.text) ending.status))
    (λ (ending : Ending). (merge : TableWords) (table : RingTable g.row.R.Denot) (counted : List Share)
    → Stands g.R.Ring.value merge table counted core
    → IsFinish merge table.columns counted (ends (string_bytes ending.text) ending.status))
    (λ ending tells merge table counted stands.
    gives_fault g.R.Ring.modulus g.R.Ring.value core c.table-table.ensures.setting merge table counted stands c.in-Err.fault
    (ends (string_bytes ending.text) ending.status) (λ i is. c.in-Err.ensures.missing_share i (ap Err is))
    (λ r s t is. c.in-Err.ensures.there r s t (ap Err is)) (λ r s t is. c.in-Err.ensures.no_inverse r s t (ap Err is)) tells)
    c.not_merged.ensures
