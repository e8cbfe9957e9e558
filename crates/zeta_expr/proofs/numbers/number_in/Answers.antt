use Rattle.std.proofs.Common.{◌≡◌, ◌*◌, ◌%◌, ◌<◌, sym, ap, ◌∙◌, arith}
use Rattle.zeta_expr.proofs.InverseLemmas.{inverse_is, inverse_zero, unit_of_rest, no_unit_of_rest, quotient_value, no_quotient_value}
use Rattle.zeta_expr.proofs.numbers.number_in.Goals as goal

pub returns-in-Some-inverse-clause-value : goal.returns-in-Some-inverse-clause-value
returns-in-Some-inverse-clause-value g c =
    let r = g.met.R.Ring in
    let ring = c.args.ring.now in
    let m = g.R.Ring.modulus ring in
    let v = g.R.Ring.value ring in
    let x = c.in-Some-inverse.inverse in
    let i = c.in-Some-inverse.ensures.inverse in
    let u : v c.of.result * v x % m ≡ 1 = sym (r.value_mul ring c.of.result x c.of.ensures.has i.0) ∙ ap v i.1 ∙ r.value_one ring in
    let big : 1 < m = omega (arith, r.modulus_from ring) in
    let inv = inverse_is m c.in-Some.number (v x) big (r.value_below ring x i.0) (unit_of_rest m c.in-Some.number (v c.of.result)
    (v x) c.of.ensures.value u) in
    quotient_value m c.args.factor.now c.in-Number.bottom c.in-Number.top c.in-Some.number (v c.of-in-Some-inverse.result) (v x)
    (v c.mul.result) c.in-Number.is c.in-Some.is inv c.of-in-Some-inverse.ensures.value
    (ap v c.mul.ensures ∙ r.value_mul ring c.of-in-Some-inverse.result x c.of-in-Some-inverse.ensures.has i.0)

pub returns-in-None-inverse-clause-value : goal.returns-in-None-inverse-clause-value
returns-in-None-inverse-clause-value g c =
    let r = g.met.R.Ring in
    let ring = c.args.ring.now in
    let m = g.R.Ring.modulus ring in
    let v = g.R.Ring.value ring in
    let big : 1 < m = omega (arith, r.modulus_from ring) in
    let inv = inverse_zero m c.in-Some.number (no_unit_of_rest m c.in-Some.number (v c.of.result) c.of.ensures.value c.in-None-inverse.ensures.none) in
    no_quotient_value m c.args.factor.now c.in-Number.bottom c.in-Number.top c.in-Some.number (v c.zero.result) big c.in-Number.is c.in-Some.is inv
    (ap v c.zero.ensures ∙ r.value_zero ring)
