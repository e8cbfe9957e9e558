use Rattle.std.proofs.Common.{Err, ◌∙◌}
use Rattle.table_rewrite.proofs.RowsLeft.{none_out}
use Rattle.table_rewrite.proofs.rewrite.row_of_sum.Goals as goal

pub unreachable-requires : goal.unreachable-requires
unreachable-requires g c =
    let r = g.met.R.Ring in
    let ring = c.args.table.now.ring in
    let w = c.in-Err-OutOfTable.field-0-0 in
    let least = (c.to_columns.ensures.out_of_table w).0 (c.in-Err-OutOfTable.is ∙ (λ i. Err (c.in-Err-OutOfTable.field-0-is i))) in
    none_out (g.R.Ring.value ring) (g.R.Ring.has ring) g.R.Ring.zero (g.R.Ring.modulus ring) (r.has_zero ring) (r.value_zero ring) (r.value_below ring)
    (r.value_injective ring) c.args.table.now.columns.weight c.args.table.now.columns.depth c.args.sum.now w c.requires.sum c.requires.words least
