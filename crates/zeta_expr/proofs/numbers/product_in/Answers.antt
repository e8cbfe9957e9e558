use Rattle.std.proofs.Common.{◌≡◌, ◌+◌, ◌*◌, ◌%◌, List, ◌∷◌, drop, sym, ap, ◌∙◌, arith, add-one, drop_of_length-le}
use Rattle.std.proofs.Math.Seq.{drop-cons}
use Rattle.std.proofs.Math.Nat.{mod-eq_of_lt}
use Rattle.zeta_expr.specs.declared.expr.Factor.{Factor}
use Rattle.zeta_expr.specs.Meaning.{number_in, product_in}
use Rattle.zeta_expr.proofs.InverseLemmas.{product_more}
use Rattle.zeta_expr.proofs.numbers.product_in.Goals as goal

pub loop-factor-preserved : goal.loop-factor-preserved
loop-factor-preserved g c =
    let r = g.met.R.Ring in
    let ring = c.args.ring.now in
    let m = g.R.Ring.modulus ring in
    let v = g.R.Ring.value ring in
    let fs = c.args.factors.now in
    let i = c.loop-factor.factor-index in
    let f = c.factor-item.result in
    let w = c.loop-factor.invariant in
    let rest = product_in m (drop (i + 1) fs) in
    let front : drop i fs ≡ f ∷ drop (i + 1) fs = drop-cons fs i f c.loop-factor-test.true ∙ (λ k. sym c.factor-item.is k ∷ drop (sym (add-one i) k) fs) in
    record {
      has = ap (g.R.Ring.has ring) c.mul-product.ensures ∙ r.has_mul ring c.loop-factor.product c.number_in.result w.has c.number_in.ensures.has;
      same = product_more m (v c.loop-factor.product) (v c.number_in.result) (number_in m f) rest (product_in m fs) (v c.mul-product.result)
          (ap v c.mul-product.ensures ∙ r.value_mul ring c.loop-factor.product c.number_in.result w.has c.number_in.ensures.has)
          c.number_in.ensures.value
          (ap (λ (l : List Factor). v c.loop-factor.product * product_in m l % m) (sym front) ∙ w.same);
    }

pub returns-clause-value : goal.returns-clause-value
returns-clause-value g c =
    let ring = c.args.ring.now in
    let m = g.R.Ring.modulus ring in
    let v = g.R.Ring.value ring in
    let p = c.loop-factor.product in
    let w = c.loop-factor.invariant in
    let e : v p * product_in m (drop c.loop-factor.factor-index c.args.factors.now) ≡ v p =
    ap (λ (l : List Factor). v p * product_in m l) (drop_of_length-le c.args.factors.now c.loop-factor-test.false) ∙ omega arith in
    sym (mod-eq_of_lt (g.met.R.Ring.value_below ring p w.has)) ∙ ap (λ x. x % m) (sym e) ∙ w.same
