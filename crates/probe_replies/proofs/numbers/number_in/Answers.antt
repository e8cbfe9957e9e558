use Rattle.std.proofs.Common.{◌≡◌, ◌*◌, ◌%◌, ◌<◌, refl, sym, ap, ◌∙◌, arith}
use Rattle.zeta_expr.specs.declared.expr.Factor.TheVariants.{Number}
use Rattle.zeta_expr.proofs.InverseLemmas.{inverse_is, inverse_zero, unit_of_rest, no_unit_of_rest, quotient_value, no_quotient_value}
use Rattle.probe_replies.proofs.numbers.number_in.Goals as goal

pub returns-in-Some-inverse-clause-value : goal.returns-in-Some-inverse-clause-value
returns-in-Some-inverse-clause-value g c =
    let r = g.met.R.Ring in
    let ring = c.args.ring.now in
    let m = g.R.Ring.modulus ring in
    let v = g.R.Ring.value ring in
    let b = c.in-Some.number in
    let x = c.in-Some-inverse.inverse in
    let i = c.in-Some-inverse.ensures.inverse in
    let u : v c.of-2.result * v x % m ≡ 1 = sym (r.value_mul ring c.of-2.result x c.of-2.ensures.has i.0) ∙ ap v i.1 ∙ r.value_one ring in
    let big : 1 < m = omega (arith, r.modulus_from ring) in
    let inv = inverse_is m b (v x) big (r.value_below ring x i.0) (unit_of_rest m b (v c.of-2.result) (v x) c.of-2.ensures.value u) in
    quotient_value m (Number c.args.top c.args.bottom) c.args.bottom c.args.top b (v c.of-in-Some-inverse.result) (v x)
    (v c.mul.result) refl c.in-Some.is inv c.of-in-Some-inverse.ensures.value
    (ap v c.mul.ensures ∙ r.value_mul ring c.of-in-Some-inverse.result x c.of-in-Some-inverse.ensures.has i.0)

pub returns-in-None-clause-value : goal.returns-in-None-clause-value
returns-in-None-clause-value g c =
    let r = g.met.R.Ring in
    let ring = c.args.ring.now in
    let m = g.R.Ring.modulus ring in
    let v = g.R.Ring.value ring in
    let b = c.in-Some.number in
    let big : 1 < m = omega (arith, r.modulus_from ring) in
    let inv = inverse_zero m b (no_unit_of_rest m b (v c.of-2.result) c.of-2.ensures.value c.in-None.ensures.none) in
    no_quotient_value m (Number c.args.top c.args.bottom) c.args.bottom c.args.top b (v c.zero.result) big refl c.in-Some.is inv
    (ap v c.zero.ensures ∙ r.value_zero ring)
