use Rattle.std.proofs.Common.{Err, ap}
use Rattle.table_build.proofs.TableFaults.{table_cause}
use Rattle.table_build.proofs.table_file.table_of.Goals as goal

pub returns-in-Err-new-clause-fault : goal.returns-in-Err-new-clause-fault
returns-in-Err-new-clause-fault g c =
    let fault = c.in-Err-new in
    table_cause c.args.params.now (g.R.Ring.modulus c.args.ring) c.in-Ok.columns c.requires.modulus c.in-Ok.ensures fault.fault
    (λ value word e. (fault.ensures.no_inverse value word).0 (ap Err e))
