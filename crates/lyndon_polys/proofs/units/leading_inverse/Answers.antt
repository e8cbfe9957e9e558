use Rattle.std.proofs.Common.{◌≡◌, ◌*◌, ◌%◌, sym, ◌∙◌, ap, arith}
use Rattle.zeta_model.proofs.ModularLemmas.{same-mod}
use Rattle.lyndon_polys.specs.Inner.{leading}
use Rattle.lyndon_polys.proofs.Inverting.{leading-count, inverse_found, no_inverse_found}
use Rattle.lyndon_polys.proofs.units.leading_inverse.Goals as goal

pub returns-in-Some-clause-inverse : goal.returns-in-Some-clause-inverse
returns-in-Some-clause-inverse g c =
    let ring = c.args.ring.now in
    let m = g.R.Ring.modulus ring in
    let value = g.R.Ring.value ring in
    let a = c.of-coefficient.result in
    let count : leading c.args.p.now ≡ c.greatest_merge-merge.result.count =
    leading-count c.args.p.now c.greatest_merge-merge.result.word c.greatest_merge-merge.ensures.word ∙ sym c.greatest_merge-merge.ensures.count in
    let rest : value a ≡ leading c.args.p.now % m = c.of-coefficient.ensures.value ∙ ap (λ x. x % m) (sym count) in
    let found = c.in-Some.ensures.inverse in
    inverse_found m (leading c.args.p.now) (value a) (value c.in-Some.inverse) (omega (arith, g.met.R.Ring.modulus_from ring)) rest
    (sym (g.met.R.Ring.value_mul ring a c.in-Some.inverse c.of-coefficient.ensures.has found.0) ∙ ap value found.1 ∙ g.met.R.Ring.value_one ring)

pub returns-in-None-clause-residue : goal.returns-in-None-clause-residue
returns-in-None-clause-residue g c =
    let m = g.R.Ring.modulus c.args.ring.now in
    let count : leading c.args.p.now ≡ c.greatest_merge-merge.result.count =
    leading-count c.args.p.now c.greatest_merge-merge.result.word c.greatest_merge-merge.ensures.word ∙ sym c.greatest_merge-merge.ensures.count in
    ap (λ x. x % m) count ∙ sym (same-mod m c.greatest_merge-merge.result.count) ∙ ap (λ x. x % m) (sym (c.value.ensures ∙ c.of-coefficient.ensures.value))

pub returns-in-None-clause-none : goal.returns-in-None-clause-none
returns-in-None-clause-none g c =
    let ring = c.args.ring.now in
    let m = g.R.Ring.modulus ring in
    no_inverse_found m c.value.result (omega (arith, g.met.R.Ring.modulus_from ring))
    (λ b e. c.in-None.ensures.none b (ap (λ x. x * b % m) (sym c.value.ensures) ∙ e))
