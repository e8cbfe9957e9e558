use Rattle.std.proofs.Common.{Err, List, map, string_bytes, ap}
use Rattle.std.proofs.lemmas.Result.{IfOk-weaker}
use Rattle.merge_runs.specs.declared.merging.Ending.{Ending}
use Rattle.merge_runs.specs.declared.merging.BrokenOff.TheVariants.{Memory}
use Rattle.lyndon_polys.specs.Tables.{RingTable}
use Rattle.share_model.specs.declared.share.Share.{Share}
use Rattle.merge_program.specs.declared.words.TableWords.{TableWords}
use Rattle.merge_runs.specs.Runs.{ends, IsFinish, IsOver}
use Rattle.merge_runs.specs.Runs.IsOver.{finished}
use Rattle.merge_runs.specs.Inner.{HoldsOfFiles, Stands}
use Rattle.merge_runs.proofs.RunEndings.{made_ok, refused_ok}
use Rattle.merge_runs.proofs.merging.merged_over_table.Goals as goal

pub returns-in-Ok-take_files-clause-ok : goal.returns-in-Ok-take_files-clause-ok
returns-in-Ok-take_files-clause-ok g c =
    let merge = c.args.merge.now in
    let told = map g.D.Disk.trace c.args.disks.now in
    let has = c.in-Ok-take_files.ensures.ok merge c.args.table c.in-Ok.ensures in
    made_ok c.finished.result c.made.result Memory
    (λ ending. HoldsOfFiles (λ files. IsOver merge c.args.table.columns files (ends (string_bytes ending.text) ending.status)) told) c.made.ensures
    (IfOk-weaker c.finished.result
    (λ (ending : Ending). (merge : TableWords) (table : RingTable g.row.R.Denot) (counted : List Share)
    → Stands g.R.Ring.value merge table counted c.take_files.new.coordinator
    → IsFinish merge table.columns counted (ends (string_bytes ending.text) ending.status))
    (λ (ending : Ending). HoldsOfFiles (λ files. IsOver merge c.args.table.columns files (ends (string_bytes ending.text) ending.status)) told)
    (λ ending finishes. record {
      files = has.files;
      are_told = has.are_told;
      holds_of = finished c.requires.converts has.counted has.takes (finishes merge c.args.table has.counted has.stands);
    }) c.finished.ensures)

pub refused-requires-clause-told : goal.refused-requires-clause-told
refused-requires-clause-told g c =
    let has = c.in-Err-NotAShare.ensures.refused c.in-Err-NotAShare.file c.in-Err-NotAShare.why (ap Err c.in-Err-NotAShare.field-0-is) c.args.merge.now
    c.args.table c.in-Ok.ensures in
    has.can_tell

pub returns-in-Err-NotAShare-clause-ok : goal.returns-in-Err-NotAShare-clause-ok
returns-in-Err-NotAShare-clause-ok g c =
    let merge = c.args.merge.now in
    let table = c.args.table in
    let told = map g.D.Disk.trace c.args.disks.now in
    let file = c.in-Err-NotAShare.file in
    let why = c.in-Err-NotAShare.why in
    let has = c.in-Err-NotAShare.ensures.refused file why (ap Err c.in-Err-NotAShare.field-0-is) merge table c.in-Ok.ensures in
    made_ok c.refused.result c.made-in-Err-NotAShare.result Memory
    (λ ending. HoldsOfFiles (λ files. IsOver merge table.columns files (ends (string_bytes ending.text) ending.status)) told)
    c.made-in-Err-NotAShare.ensures
    (refused_ok merge table.columns c.requires.columns c.requires.converts told file why has c.refused.result c.refused.ensures.status c.refused.ensures.text)
