use Rattle.zeta_expr.proofs.OneMeaning.{some_meaning, one_meaning}
use Rattle.zeta_expr.proofs.laws.a_line_has_one_meaning.Goals as goal

pub returns-clause-some : goal.returns-clause-some
returns-clause-some c m w d line = some_meaning m w d line

pub returns-clause-one : goal.returns-clause-one
returns-clause-one c m w d line a b = one_meaning m w d line a b
