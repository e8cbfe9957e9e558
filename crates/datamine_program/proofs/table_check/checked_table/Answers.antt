use Rattle.std.proofs.Common.{subst}
use Rattle.table_checker.specs.Checks.{IsRefusal}
use Rattle.outside_io.specs.Causes.{Rose}
use Rattle.datamine_program.proofs.JudgedFiles.{has_header, whole_table}
use Rattle.datamine_program.proofs.table_check.checked_table.Goals as goal

pub returns-in-Ok-clause-whole : goal.returns-in-Ok-clause-whole
returns-in-Ok-clause-whole g c =
    let told = g.D.Disk.trace c.args.disk.now in
    let file = c.args.file.now in
    let params = c.args.params.now in
    let ring = c.args.ring in
    let checked = c.in-Ok.checked in
    whole_table g.R.Ring.zero (g.R.Ring.has ring) (g.R.Ring.value ring) checked.rows.rows told params file.params checked.table.columns
    (has_header told file params c.requires.suits c.requires.header) c.requires.header c.in-Ok.ensures.table c.in-Ok.ensures.whole c.in-Ok.ensures.finals

pub returns-in-Err-clause-err : goal.returns-in-Err-clause-err
returns-in-Err-clause-err g c =
    let told = g.D.Disk.trace c.args.disk.now in
    let file = c.args.file.now in
    let params = c.args.params.now in (
      subst (λ o. IsRefusal (Rose (g.D.Disk.faults c.args.disk.now) (g.D.Disk.faults c.check_table.new.disk)) told o c.in-Err.fault) c.requires.header
          c.in-Err.ensures.err,
      has_header told file params c.requires.suits c.requires.header,
    )
