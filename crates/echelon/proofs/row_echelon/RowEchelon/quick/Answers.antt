use Rattle.std.proofs.Common.{IfOk, IfSome, subst}
use Rattle.echelon.specs.States.{IsRowList}
use Rattle.echelon.specs.Finishes.{SameSpanOf}
use Rattle.echelon.proofs.row_echelon.RowEchelon.quick.Goals as goal

pub returns-clause-list : goal.returns-clause-list
returns-clause-list g c =
    subst (λ s. IfOk c.reduced_quickly.result
    (λ made. IfSome made (λ list. IsRowList (g.R.Ring.modulus s.ring) (g.R.Ring.has s.ring)
    (g.R.Ring.value s.ring) g.R.Ring.zero s.columns list.items))) c.self.view_is c.reduced_quickly.ensures.list

pub returns-clause-span : goal.returns-clause-span
returns-clause-span g c =
    subst (λ s. IfOk c.reduced_quickly.result
    (λ made. IfSome made (λ list. SameSpanOf (g.R.Ring.modulus s.ring) (g.R.Ring.value s.ring) s.rows list.items))) c.self.view_is
    (subst (λ rs. IfOk c.reduced_quickly.result
    (λ made. IfSome made (λ list. SameSpanOf (g.R.Ring.modulus c.self.inside.ring)
    (g.R.Ring.value c.self.inside.ring) rs list.items))) c.deref.ensures.value c.reduced_quickly.ensures.span)
