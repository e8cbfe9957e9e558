use Rattle.std.proofs.Common.{subst}
use Rattle.echelon.specs.Inner.{AllStand}
use Rattle.echelon.proofs.row_echelon.RowEchelon.renew.Goals as goal

pub invariant_of-self-in-Ok : goal.invariant_of-self-in-Ok
invariant_of-self-in-Ok g c =
    let s = c.self.inside in (
      c.self.invariant.0,
      c.in-Ok.ensures.within,
      subst (λ rs. AllStand (g.R.Ring.modulus s.ring) (g.R.Ring.value s.ring) rs c.in-Ok.standing.items) c.deref.ensures.value c.in-Ok.ensures.stand,
    )
