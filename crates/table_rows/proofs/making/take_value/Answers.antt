use Rattle.std.proofs.Common.{sym, subst}
use Rattle.table_rows.specs.Inner.{IsValue}
use Rattle.table_rows.proofs.NamedValues.{listed, listed_value-named}
use Rattle.table_rows.proofs.making.take_value.Goals as goal

pub value_sum-requires-clause-is_name : goal.value_sum-requires-clause-is_name
value_sum-requires-clause-is_name g c =
    let columns = c.args.table.now.columns in let table = c.requires.so_far.offered.is_table in let limits = table.limits in
    (listed columns.weight columns.depth c.args.n c.args.name.now limits.most c.requires.named).0

pub value_sum-requires-clause-weight : goal.value_sum-requires-clause-weight
value_sum-requires-clause-weight g c =
    let columns = c.args.table.now.columns in let table = c.requires.so_far.offered.is_table in let limits = table.limits in
    (listed columns.weight columns.depth c.args.n c.args.name.now limits.most c.requires.named).1

pub value_sum-requires-clause-depth : goal.value_sum-requires-clause-depth
value_sum-requires-clause-depth g c =
    let columns = c.args.table.now.columns in let table = c.requires.so_far.offered.is_table in let limits = table.limits in
    (listed columns.weight columns.depth c.args.n c.args.name.now limits.most c.requires.named).2

pub take_sum-requires-clause-value : goal.take_sum-requires-clause-value
take_sum-requires-clause-value g c =
    let t = c.args.table.now in
    let m = g.R.Ring.modulus t.ring in
    subst (λ s. IsValue m (g.R.Ring.has t.ring) (g.R.Ring.value t.ring) t.columns s c.in-Ok.sum)
    (sym (listed_value-named m t.columns.weight t.columns.depth c.args.n c.args.name.now c.requires.named)) c.in-Ok.ensures.value
