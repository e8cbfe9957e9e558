use Rattle.table_build.proofs.NamedValues.{none_fails}
use Rattle.table_build.proofs.offering.row_of_value.Goals as goal

pub unreachable-requires : goal.unreachable-requires
unreachable-requires g c =
    let columns = c.args.table.now.columns in
    none_fails columns.weight columns.depth c.args.sum.now c.requires.words c.in-Err-OutOfTable.field-0-0
    ((c.to_columns.ensures.out_of_table c.in-Err-OutOfTable.field-0-0).0 cc)
