use Rattle.std.proofs.Common.{Err, sym, ap, subst}
use Rattle.share_build.specs.Refusals.{IsBuildRefusal}
use Rattle.share_build.proofs.TableFaults.{table_cause}
use Rattle.share_build.proofs.table.table_of.Goals as goal

pub returns-in-Err-new-clause-fault : goal.returns-in-Err-new-clause-fault
returns-in-Err-new-clause-fault g c = λ id.
    let fault = c.in-Err-new in
    let params = c.args.params.now in
    subst (IsBuildRefusal params id) (sym c.table_fault.ensures)
    (table_cause params id (g.R.Ring.modulus c.args.ring) c.in-Ok.columns c.requires.modulus c.in-Ok.ensures fault.fault
    (λ value word e. (fault.ensures.no_inverse value word).0 (ap Err e)))
