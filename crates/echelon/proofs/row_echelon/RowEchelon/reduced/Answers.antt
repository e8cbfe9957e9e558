use Rattle.std.proofs.Common.{sym, subst}
use Rattle.echelon.specs.Finishes.{SameSpanOf}
use Rattle.echelon.proofs.row_echelon.RowEchelon.reduced.Goals as goal

pub returns-in-Some-clause-span : goal.returns-in-Some-clause-span
returns-in-Some-clause-span g c =
    let s = c.args.self.now in
    subst (λ t. SameSpanOf (g.R.Ring.modulus s.ring) (g.R.Ring.value s.ring) s.rows t.rows) (sym c.of.ensures)
    (rw c.in-Some.is at c.in_ok-rows.ensures.span)
