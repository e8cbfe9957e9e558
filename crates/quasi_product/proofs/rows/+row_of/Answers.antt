use Rattle.std.proofs.Common.{arith}
use Rattle.std.proofs.lemmas.Result.{IfOk-weaker}
use Rattle.quasi_product.proofs.RowLemmas.{IsRow-first}
use Rattle.quasi_product.proofs.rows.+row_of.Goals as goal

pub returns-then-weight-eq0-clause-row : goal.returns-then-weight-eq0-clause-row
returns-then-weight-eq0-clause-row g t c =
    IfOk-weaker c.first_row.result _ _
    (λ row first. IsRow-first (λ cell. cell.items) (g.R.Ring.has c.args.ring.now) (g.R.Ring.value c.args.ring.now)
    (g.R.Ring.modulus c.args.ring.now) c.args.c g.L.Letters.alphabet c.args.u c.args.suffixes.now row.items c.requires.has_c
    (omega (arith, c.weight.ensures.length, c.if-weight-eq0.true)) first)
    c.first_row.ensures.terms
