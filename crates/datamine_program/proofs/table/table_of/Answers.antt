use Rattle.std.proofs.Common.{Err, length, ap, sym, subst, ◌∙◌}
use Rattle.echelon.specs.Lists.{lead_at, row_at}
use Rattle.table_model.specs.Conversion.{Converts}
use Rattle.file_model.specs.TableOf.{IsTableOf}
use Rattle.datamine_program.specs.Inner.{IsFaultOf}
use Rattle.datamine_program.proofs.Tables.{not_converting, work_broken, table_made}
use Rattle.datamine_program.proofs.table.table_of.Goals as goal

pub returns-in-Err-clause-fault : goal.returns-in-Err-clause-fault
returns-in-Err-clause-fault g c =
    let params = c.args.params.now in
    let fault = c.in-Err in
    subst (IsFaultOf params) (sym c.conversion_fault.ensures)
    (not_converting params (g.R.Ring.modulus c.args.ring) c.in-Ok.columns c.requires.ring c.in-Ok.ensures fault.fault
    (λ value word e. (fault.ensures.no_inverse value word).0 (ap Err e)))

pub returns-in-Ok-reduced_rows-clause-made : goal.returns-in-Ok-reduced_rows-clause-made
returns-in-Ok-reduced_rows-clause-made g c =
    let params = c.args.params.now in
    let table = c.in-Ok-new.table in
    let told = c.in-Ok-new.ensures in
    let m = g.R.Ring.modulus table.ring in
    let same = ap g.R.Ring.modulus told.ring in
    let rows = c.in-Ok-reduced_rows.made.rows.rows in
    table_made params m table.columns (same ∙ c.requires.ring) (subst (IsTableOf params) (sym told.columns) c.in-Ok.ensures)
    (length rows) (lead_at rows) (row_at (g.R.Ring.value table.ring) rows)
    (subst (λ k. Converts k table.columns) (sym same) (subst (Converts (g.R.Ring.modulus c.args.ring)) (sym told.columns) told.converts))
    c.in-Ok-reduced_rows.ensures.fits c.in-Ok-reduced_rows.ensures.ok

pub returns-in-Err-reduced_rows-clause-fault : goal.returns-in-Err-reduced_rows-clause-fault
returns-in-Err-reduced_rows-clause-fault g c =
    let params = c.args.params.now in
    let table = c.in-Ok-new.table in
    let told = c.in-Ok-new.ensures in
    let m = g.R.Ring.modulus table.ring in
    let same = ap g.R.Ring.modulus told.ring in
    let fault = c.in-Err-reduced_rows in
    subst (IsFaultOf params) (sym c.relation_fault.ensures)
    (work_broken params m table.columns (same ∙ c.requires.ring) (subst (IsTableOf params) (sym told.columns) c.in-Ok.ensures) fault.fault
    (subst (λ k. Converts k table.columns) (sym same) (subst (Converts (g.R.Ring.modulus c.args.ring)) (sym told.columns) told.converts))
    (λ value n e. fault.ensures.no_inverse value n (ap Err e)))
