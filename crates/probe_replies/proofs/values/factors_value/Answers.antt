use Rattle.std.proofs.Common.{◌≡◌, ◌+◌, ◌*◌, ◌%◌, List, ◌∷◌, drop, sym, ap, ◌∙◌, arith, add-one, drop_of_length-le}
use Rattle.std.proofs.Math.Seq.{drop-cons}
use Rattle.std.proofs.Math.Nat.{mod-eq_of_lt}
use Rattle.zeta_expr.specs.declared.expr.Factor.{Factor}
use Rattle.zeta_expr.proofs.InverseLemmas.{product_more}
use Rattle.probe_replies.specs.Values.{factor_value, factors_value}
use Rattle.probe_replies.proofs.values.factors_value.Goals as goal

pub loop-factor-preserved : goal.loop-factor-preserved
loop-factor-preserved g c =
    let r = g.met.R.Ring in
    let ring = c.args.ring.now in
    let m = g.R.Ring.modulus ring in
    let n = c.args.sums.now.1 in
    let v = g.R.Ring.value ring in
    let fs = c.args.factors.now in
    let i = c.loop-factor.factor-index in
    let f = c.factor-item.result in
    let w = c.loop-factor.invariant in
    let value = c.in_ok-value.value in
    let rest = factors_value m n (drop (i + 1) fs) in
    let front : drop i fs ≡ f ∷ drop (i + 1) fs = drop-cons fs i f c.loop-factor-test.true ∙ (λ k. sym c.factor-item.is k ∷ drop (sym (add-one i) k) fs) in
    record {
      has = ap (g.R.Ring.has ring) c.mul-product.ensures ∙ r.has_mul ring c.loop-factor.product value w.has c.in_ok-value.ensures.has;
      same = product_more m (v c.loop-factor.product) (v value) (factor_value m n f) rest (factors_value m n fs) (v c.mul-product.result)
          (ap v c.mul-product.ensures ∙ r.value_mul ring c.loop-factor.product value w.has c.in_ok-value.ensures.has)
          c.in_ok-value.ensures.value
          (ap (λ (l : List Factor). v c.loop-factor.product * factors_value m n l % m) (sym front) ∙ w.same);
    }

pub returns-clause-value : goal.returns-clause-value
returns-clause-value g c =
    let ring = c.args.ring.now in
    let m = g.R.Ring.modulus ring in
    let n = c.args.sums.now.1 in
    let v = g.R.Ring.value ring in
    let p = c.loop-factor.product in
    let w = c.loop-factor.invariant in
    let e : v p * factors_value m n (drop c.loop-factor.factor-index c.args.factors.now) ≡ v p =
    ap (λ (l : List Factor). v p * factors_value m n l) (drop_of_length-le c.args.factors.now c.loop-factor-test.false) ∙ omega arith in
    sym (mod-eq_of_lt (g.met.R.Ring.value_below ring p w.has)) ∙ ap (λ x. x % m) (sym e) ∙ w.same
