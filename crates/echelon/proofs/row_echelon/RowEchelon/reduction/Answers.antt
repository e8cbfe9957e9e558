use Rattle.std.proofs.Common.{IfOk, subst}
use Rattle.echelon.specs.Inner.{IsReducing}
use Rattle.echelon.proofs.row_echelon.RowEchelon.reduction.Goals as goal

pub returns-clause-made : goal.returns-clause-made
returns-clause-made g c =
    subst (λ s. IfOk c.reduced_rows.result
    (λ made. IsReducing (g.R.Ring.modulus s.ring) (g.R.Ring.has s.ring)
    (g.R.Ring.value s.ring) g.R.Ring.zero s.columns s.numbers s.rows s.columns made.rows.items made.uses.items))
    c.self.view_is
    (subst (λ ns. IfOk c.reduced_rows.result
    (λ made. IsReducing (g.R.Ring.modulus c.self.inside.ring) (g.R.Ring.has c.self.inside.ring)
    (g.R.Ring.value c.self.inside.ring) g.R.Ring.zero c.self.inside.columns ns c.self.inside.rows.items c.self.inside.columns made.rows.items
    made.uses.items))
    c.deref.ensures.value
    (subst (λ rs. IfOk c.reduced_rows.result
    (λ made. IsReducing (g.R.Ring.modulus c.self.inside.ring) (g.R.Ring.has c.self.inside.ring)
    (g.R.Ring.value c.self.inside.ring) g.R.Ring.zero c.self.inside.columns c.deref.result.now rs c.self.inside.columns made.rows.items made.uses.items))
    c.deref-2.ensures.value c.reduced_rows.ensures))
