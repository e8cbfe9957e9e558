use Rattle.std.proofs.Common.{IfOk, subst}
use Rattle.echelon.specs.Finishes.{SameSpanOf}
use Rattle.echelon.proofs.echelon.Echelon.uses.Goals as goal

pub returns-clause-span : goal.returns-clause-span
returns-clause-span g c =
    subst (λ s. IfOk c.finish.result
    (λ finished. SameSpanOf (g.R.Ring.modulus s.core.ring)
    (g.R.Ring.value s.core.ring) s.core.rows finished.rows.rows)) c.self.view_is c.finish.ensures.span
