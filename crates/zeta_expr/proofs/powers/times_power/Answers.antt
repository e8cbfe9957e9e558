use Rattle.std.proofs.Common.{◌≡◌, sym, subst, add-one, arith}
use Rattle.word_sums.specs.Sums.{IsSumOf}
use Rattle.zeta_model.specs.Sums.{single, continued}
use Rattle.zeta_expr.specs.Meaning.{zeta_terms, times_power}
use Rattle.zeta_expr.proofs.GivingLemmas.{product_gives, copy_fits}
use Rattle.zeta_expr.proofs.powers.times_power.Goals as goal

pub times-requires-clause-b_in_ring : goal.times-requires-clause-b_in_ring
times-requires-clause-b_in_ring g c = let w = c.loop-copies.invariant c.requires.room.terms c.requires.room.gives in w.in_ring

pub times-requires-clause-fits : goal.times-requires-clause-fits
times-requires-clause-fits g c =
    let r = g.met.R.Ring in
    let ring = c.args.ring.now in
    copy_fits g.R.Ring.zero (g.R.Ring.has ring) (g.R.Ring.value ring) (g.R.Ring.modulus ring) (omega (arith, r.modulus_from ring))
    (r.has_zero ring) (r.value_zero ring) (r.value_injective ring)
    c.args.index.now c.args.power c.loop-copies.copies c.in_ok-zeta.zeta c.args.before c.loop-copies.product
    c.in_ok-zeta.ensures c.loop-copies-test.true c.requires.room (c.loop-copies.invariant c.requires.room.terms c.requires.room.gives)

pub loop-copies-preserved : goal.loop-copies-preserved
loop-copies-preserved g c =
    λ p b.
    let r = g.met.R.Ring in
    let ring = c.args.ring.now in
    let m = g.R.Ring.modulus ring in
    let ks = c.args.index.now in
    let i = c.loop-copies.copies in
    let x = product_gives g.R.Ring.zero (g.R.Ring.has ring) (g.R.Ring.value ring) m (omega (arith, r.modulus_from ring))
    c.in_ok-zeta.zeta c.loop-copies.product c.in_ok-product.product (zeta_terms m ks) (times_power m ks i p)
    c.in_ok-zeta.ensures (c.loop-copies.invariant p b) c.in_ok-product.ensures in
    subst (λ k. IsSumOf g.R.Ring.zero (g.R.Ring.has ring) (g.R.Ring.value ring) m (continued single (times_power m ks k p)) c.in_ok-product.product)
    (sym (add-one i)) x

pub returns : goal.returns
returns g c =
    λ p b.
    let ring = c.args.ring.now in
    let m = g.R.Ring.modulus ring in
    let e : c.loop-copies.copies ≡ c.args.power = omega arith in
    subst (λ k. IsSumOf g.R.Ring.zero (g.R.Ring.has ring) (g.R.Ring.value ring) m (continued single
    (times_power m c.args.index.now k p)) c.loop-copies.product)
    e (c.loop-copies.invariant p b)
