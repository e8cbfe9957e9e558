use Rattle.std.proofs.Common.{◌≡◌, ◌*◌, IfOk, subst}
use Rattle.echelon.specs.Inner.{numbers_of}
use Rattle.echelon.specs.Offers.{IsCombined}
use Rattle.echelon.proofs.echelon.Echelon.combined.Goals as goal

pub returns-clause-combined : goal.returns-clause-combined
returns-clause-combined g c =
    let modulus = g.R.Ring.modulus in
    let value = g.R.Ring.value in
    let scale = c.args.found.now.scale in
    let n = c.args.n in
    let factors_is : c.deref-2.result.now ≡ c.args.found.now.factors.items = c.deref-2.ensures.value in
    subst (λ s. IfOk c.combined.result
    (IsCombined (modulus s.core.ring) (value s.core.ring) s.combinations n (value s.core.ring scale)
    (λ i. value s.core.ring scale * numbers_of (value s.core.ring) c.args.found.now.factors.items i)))
    c.self.view_is
    (subst (λ r. IfOk c.combined.result
    (IsCombined (modulus r) (value r) c.self.inside.combinations.items n (value r scale)
    (λ i. value r scale * numbers_of (value r) c.args.found.now.factors.items i)))
    c.ring.ensures
    (subst (λ cs. IfOk c.combined.result
    (IsCombined (modulus c.ring.result.now) (value c.ring.result.now) cs n (value c.ring.result.now scale)
    (λ i. value c.ring.result.now scale * numbers_of (value c.ring.result.now) c.args.found.now.factors.items i)))
    c.deref.ensures.value
    (subst (λ fs. IfOk c.combined.result
    (IsCombined (modulus c.ring.result.now) (value c.ring.result.now) c.deref.result.now n (value c.ring.result.now scale)
    (λ i. value c.ring.result.now scale * numbers_of (value c.ring.result.now) fs i)))
    factors_is c.combined.ensures.combined)))
