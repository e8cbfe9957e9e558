use Rattle.std.proofs.Common.{refl}
use Rattle.table_checker.proofs.ProductPlaces.{product_placed}
use Rattle.table_checker.proofs.leading.product_column.Goals as goal

pub unreachable-requires : goal.unreachable-requires
unreachable-requires c =
    let tables = c.requires.tables in
    product_placed c.args.low.now c.args.high.now tables.0 tables.1 tables.2 c.requires.lower c.args.p.now c.args.q.now c.requires.column
    c.requires.cofactor c.in-Ok.product c.in-Ok.ensures.ok (c.in-None.ensures.none.0 refl)
