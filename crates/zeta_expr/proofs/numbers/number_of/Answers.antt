use Rattle.std.proofs.Common.{sym, ap, ◌∙◌, arith}
use Rattle.zeta_expr.specs.Forms.{TermForm}
use Rattle.zeta_expr.proofs.InverseLemmas.{number_of_negative}
use Rattle.zeta_expr.proofs.numbers.number_of.Goals as goal

pub returns-then-term-clause-value : goal.returns-then-term-clause-value
returns-then-term-clause-value g c =
    let r = g.met.R.Ring in
    let ring = c.args.ring.now in
    let v = g.R.Ring.value ring in
    let p = c.product_in-product.result in
    let has = c.product_in-product.ensures.has in
    number_of_negative (g.R.Ring.modulus ring) (v p) (v c.neg.result) c.args.term.now c.as_slice.result.now (omega (arith, r.modulus_from ring))
    (r.value_below ring p has)
    (sym (ap (λ (t : TermForm). t.negative) c.term.view_is) ∙ c.if-term.true)
    (c.as_slice.ensures.value ∙ ap (λ (t : TermForm). t.factors) c.term.view_is)
    c.product_in-product.ensures.value
    (ap v c.neg.ensures ∙ r.value_neg ring p has)
