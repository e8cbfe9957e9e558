use Rattle.std.proofs.Common.{sym, subst}
use Rattle.echelon.specs.Lists.{entries_of}
use Rattle.echelon.specs.Offers.{InSpanOf}
use Rattle.echelon.specs.Inner.{AllStand}
use Rattle.echelon.proofs.row_echelon.RowEchelon.is_known.Goals as goal

pub returns-clause-known : goal.returns-clause-known
returns-clause-known g c = λ known.
    let s = c.self.inside in
    subst (λ s. InSpanOf (g.R.Ring.modulus s.ring) (g.R.Ring.value s.ring) s.rows (entries_of (g.R.Ring.value s.ring) c.args.row.now)) c.self.view_is
    (c.nothing_left.ensures known s.rows.items
    (subst (AllStand (g.R.Ring.modulus s.ring) (g.R.Ring.value s.ring) s.rows.items) (sym c.deref.ensures.value) c.self.invariant.2))
