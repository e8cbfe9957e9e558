use Rattle.std.proofs.Common.{length, sym, subst}
use Rattle.std.specs.Prelude.{IfOk}
use Rattle.column_order.specs.Columns.{ColumnList}
use Rattle.table_model.specs.Conversion.{IsTable}
use Rattle.cert_checker.specs.Verdicts.{AreWithin}
use Rattle.cert_checker.proofs.Evaluated.{count-listed}
use Rattle.cert_checker.proofs.WhatIsLeft.{listed-names}
use Rattle.cert_checker.proofs.VerdictsTold.{Found}
use Rattle.cert_checker.proofs.completeness.bad_row.Goals as goal

pub first_bad_row-requires-clause-names : goal.first_bad_row-requires-clause-names
first_bad_row-requires-clause-names g c =
    let columns = c.args.table.now.columns in
    let table : IsTable (g.R.Ring.modulus c.args.table.now.ring) columns = c.columns.ensures.table in
    let limits = table.limits in
    listed-names columns.weight columns.depth c.args.names.now limits.most c.requires.listed

pub first_bad_row-requires-clause-combinations : goal.first_bad_row-requires-clause-combinations
first_bad_row-requires-clause-combinations g c =
    subst (λ r. AreWithin g.R.Ring.zero (g.R.Ring.has r) (length c.args.names.now) c.args.combinations.now) (sym c.ring.ensures)
    (subst (λ k. AreWithin g.R.Ring.zero (g.R.Ring.has c.args.table.now.ring) k c.args.combinations.now)
    (sym (count-listed c.args.table.now.columns c.args.names.now c.requires.listed)) c.requires.combinations)

pub returns : goal.returns
returns g c =
    let t = c.args.table.now in
    let found = c.first_bad_row.result in
    let rows = c.args.rows.now in
    let combinations = c.args.combinations.now in
    subst (λ (cs : ColumnList). IfOk found (Found (g.R.Ring.value t.ring) (g.R.Ring.modulus t.ring) cs combinations rows)) c.columns.ensures.columns
    (subst (λ r. IfOk found (Found (g.R.Ring.value r) (g.R.Ring.modulus r) c.columns.result.now combinations rows)) c.ring.ensures c.first_bad_row.ensures)
