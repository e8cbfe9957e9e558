use Rattle.std.proofs.Common.{rules}
use Rattle.whole_runs.proofs.Parameters.{modulus_refused}
use Rattle.whole_runs.proofs.requests.tested_modulus.Goals as goal

pub returns-in_err-params-clause-err : goal.returns-in_err-params-clause-err
returns-in_err-params-clause-err c = let told = modulus_refused c.args.modulus _ c.in_err-params.ensures.err in search rules
