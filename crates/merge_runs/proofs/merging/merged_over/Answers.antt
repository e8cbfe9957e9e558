use Rattle.std.proofs.Common.{Err, map, string_bytes, sym, ap, subst}
use Rattle.zeta_model.proofs.WordLemmas.{admissible-ends}
use Rattle.column_order.specs.Columns.{ColumnList}
use Rattle.table_model.specs.Faults.{IsNotInvertible}
use Rattle.file_model.specs.TableOf.{IsTableOf}
use Rattle.merge_runs.specs.declared.merging.BrokenOff.TheVariants.{Memory}
use Rattle.merge_runs.specs.Runs.{ends, IsOverTable}
use Rattle.merge_runs.specs.Inner.{HoldsOfFiles}
use Rattle.merge_runs.proofs.RunEndings.{made_ok, not_converted_ok, over_table_ok}
use Rattle.merge_runs.proofs.merging.merged_over.Goals as goal

pub not_converted-requires : goal.not_converted-requires
not_converted-requires g c = λ value word is.
    let at = (c.in-Err.ensures.no_inverse value word).0 (ap Err is) in
    admissible-ends word at.reached.word.admissible

pub returns-in-Err-clause-ok : goal.returns-in-Err-clause-ok
returns-in-Err-clause-ok g c =
    let merge = c.args.merge.now in
    let told = map g.D.Disk.trace c.args.disks.now in
    let columns = c.in-Ok.columns in
    made_ok c.not_converted.result c.made.result Memory
    (λ ending. HoldsOfFiles (λ files. IsOverTable merge files (ends (string_bytes ending.text) ending.status)) told) c.made.ensures
    (not_converted_ok merge columns c.in-Ok.ensures told c.in-Err.fault
    (λ value word is. subst (λ m. IsNotInvertible m columns word value) c.requires.modulus ((c.in-Err.ensures.no_inverse value word).0 (ap Err is)))
    c.not_converted.result c.not_converted.ensures)

pub returns-in-Ok-new-clause-ok : goal.returns-in-Ok-new-clause-ok
returns-in-Ok-new-clause-ok g c =
    let merge = c.args.merge.now in
    let columns = c.in-Ok-new.table.columns in
    over_table_ok merge columns (subst (λ (cols : ColumnList). IsTableOf merge.params cols) (sym c.in-Ok-new.ensures.columns) c.in-Ok.ensures)
    (map g.D.Disk.trace c.args.disks.now) c.merged_over_table.result c.merged_over_table.ensures.ok
