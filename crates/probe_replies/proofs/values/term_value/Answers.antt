use Rattle.std.proofs.Common.{List, ◌*◌, ◌-◌, ◌%◌, cond, sym, ap, ◌∙◌, arith}
use Rattle.zeta_expr.specs.declared.expr.Factor.{Factor}
use Rattle.zeta_expr.specs.Forms.{TermForm}
use Rattle.zeta_expr.proofs.InverseLemmas.{negative_value}
use Rattle.probe_replies.specs.Values.{factors_value}
use Rattle.probe_replies.proofs.values.term_value.Goals as goal

pub returns-then-term-clause-value : goal.returns-then-term-clause-value
returns-then-term-clause-value g c =
    let r = g.met.R.Ring in
    let ring = c.args.ring.now in
    let m = g.R.Ring.modulus ring in
    let v = g.R.Ring.value ring in
    let t = c.args.term.now in
    let n = c.args.sums.now.1 in
    let p = c.in_ok-product.product in
    let e = c.in_ok-product.ensures in
    let f = c.as_slice.ensures.value ∙ ap (λ (t : TermForm). t.factors) c.term.view_is in
    let sign = sym (ap (λ (t : TermForm). t.negative) c.term.view_is) ∙ c.if-term.true in
    negative_value m (v p) (factors_value m n t.factors) (v c.neg.result) (omega (arith, r.modulus_from ring)) (r.value_below ring p e.has)
    (e.value ∙ ap (λ (l : List Factor). factors_value m n l % m) f) (ap v c.neg.ensures ∙ r.value_neg ring p e.has)
    ∙ ap (λ b. cond b (m - 1) 1 * factors_value m n t.factors % m) (sym sign)
