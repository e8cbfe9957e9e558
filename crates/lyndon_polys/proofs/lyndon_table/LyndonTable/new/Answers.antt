use Rattle.std.proofs.Common.{refl}
use Rattle.lyndon_polys.proofs.EarliestFaults.{number_without}
use Rattle.lyndon_polys.proofs.Telling.{fault_tells, none_tells}
use Rattle.lyndon_polys.proofs.lyndon_table.LyndonTable.new.Goals as goal

pub returns-in-Some-clause-no_inverse : goal.returns-in-Some-clause-no_inverse
returns-in-Some-clause-no_inverse g c =
    fault_tells (g.R.Ring.modulus c.args.ring) c.args.columns _ c.in-Some.fault.0 c.in-Some.fault.1 refl c.in-Some.ensures.some

pub returns-in-Some-clause-number : goal.returns-in-Some-clause-number
returns-in-Some-clause-number g c value word e =
    number_without (g.R.Ring.modulus c.args.ring) c.args.columns c.is_table.ensures c.in-Some.fault.1 c.in-Some.fault.0 c.in-Some.ensures.some

pub returns-in-Ok-clause-no_inverse : goal.returns-in-Ok-clause-no_inverse
returns-in-Ok-clause-no_inverse g c = none_tells (g.R.Ring.modulus c.args.ring) c.args.columns _ (λ a u e. cc) c.in_default.ensures.none

pub returns-in-Err-clause-no_inverse : goal.returns-in-Err-clause-no_inverse
returns-in-Err-clause-no_inverse g c = none_tells (g.R.Ring.modulus c.args.ring) c.args.columns _ (λ a u e. cc) c.in_default.ensures.none
