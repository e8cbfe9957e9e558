use Rattle.std.proofs.Common.{Err, ap}
use Rattle.datamine_program.proofs.ShownPages.{not_opened}
use Rattle.datamine_program.proofs.table_file.open.Goals as goal

pub returns-in-Err-clause-err : goal.returns-in-Err-clause-err
returns-in-Err-clause-err g c =
    let told = c.in-Err.ensures in
    rw c.reading_fault.ensures (not_opened _ _ _ c.in-Err.fault (λ e. told.disk_fault_only (ap Err e)) (λ n e. told.foreign n (ap Err e))
    (λ i e. told.bad_page i (ap Err e)))
