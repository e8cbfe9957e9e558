use Rattle.std.proofs.Common.{◌≡◌, IfOk, IfSome, subst}
use Rattle.echelon.specs.Lists.{entries_of}
use Rattle.echelon.specs.Offers.{HasNoInverse}
use Rattle.echelon.specs.Inner.{IsFoundRow}
use Rattle.echelon.proofs.row_echelon.RowEchelon.found.Goals as goal

pub returns-clause-found : goal.returns-clause-found
returns-clause-found g c =
    subst (λ s. IfOk c.found_row.result
    (λ found. IfSome found (λ f. IsFoundRow (g.R.Ring.modulus s.ring) (g.R.Ring.has s.ring) (g.R.Ring.value s.ring) g.R.Ring.zero s.columns s.rows
    (entries_of (g.R.Ring.value s.ring) c.args.row.now) f.row f.scale f.factors.items)))
    c.self.view_is
    (subst (λ rs. IfOk c.found_row.result
    (λ found. IfSome found (λ f. IsFoundRow (g.R.Ring.modulus c.self.inside.ring) (g.R.Ring.has c.self.inside.ring)
    (g.R.Ring.value c.self.inside.ring) g.R.Ring.zero c.self.inside.columns rs
    (entries_of (g.R.Ring.value c.self.inside.ring) c.args.row.now) f.row f.scale f.factors.items)))
    c.deref.ensures.value c.found_row.ensures.found)

pub returns-clause-no_inverse : goal.returns-clause-no_inverse
returns-clause-no_inverse g c =
    λ lead k h.
    let told : (k ≡ c.args.n) × HasNoInverse (g.R.Ring.modulus c.self.inside.ring) (g.R.Ring.value c.self.inside.ring) c.deref.result.now
    (entries_of (g.R.Ring.value c.self.inside.ring) c.args.row.now) lead = c.found_row.ensures.no_inverse lead k h in (
      told.0,
      subst (λ s. HasNoInverse (g.R.Ring.modulus s.ring) (g.R.Ring.value s.ring) s.rows
          (entries_of (g.R.Ring.value s.ring) c.args.row.now) lead) c.self.view_is
          (subst (λ rs. HasNoInverse (g.R.Ring.modulus c.self.inside.ring) (g.R.Ring.value c.self.inside.ring) rs
          (entries_of (g.R.Ring.value c.self.inside.ring) c.args.row.now) lead) c.deref.ensures.value told.1),
    )
