use Rattle.std.proofs.Common.{◌≡◌, IfOk, IfSome, subst}
use Rattle.echelon.specs.Lists.{entries_of}
use Rattle.echelon.specs.Offers.{HasNoInverse}
use Rattle.echelon.specs.Inner.{IsFoundRow}
use Rattle.echelon.proofs.echelon.Echelon.found.Goals as goal

pub returns-clause-found : goal.returns-clause-found
returns-clause-found g c =
    subst (λ s. IfOk c.found.result
    (λ found. IfSome found (λ f. IsFoundRow (g.R.Ring.modulus s.core.ring) (g.R.Ring.has s.core.ring)
    (g.R.Ring.value s.core.ring) g.R.Ring.zero s.core.columns s.core.rows
    (entries_of (g.R.Ring.value s.core.ring) c.args.row.now) f.row f.scale f.factors.items)))
    c.self.view_is c.found.ensures.found

pub returns-clause-no_inverse : goal.returns-clause-no_inverse
returns-clause-no_inverse g c =
    λ lead k h.
    let told : (k ≡ c.args.n) × HasNoInverse (g.R.Ring.modulus c.self.inside.core.ring) (g.R.Ring.value c.self.inside.core.ring) c.self.inside.core.rows
    (entries_of (g.R.Ring.value c.self.inside.core.ring) c.args.row.now) lead = c.found.ensures.no_inverse lead k h in (
      told.0,
      subst (λ s. HasNoInverse (g.R.Ring.modulus s.core.ring) (g.R.Ring.value s.core.ring) s.core.rows
          (entries_of (g.R.Ring.value s.core.ring) c.args.row.now) lead) c.self.view_is told.1,
    )
