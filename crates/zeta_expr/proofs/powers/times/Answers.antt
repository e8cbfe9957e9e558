use Rattle.std.proofs.Common.{◌≡◌, ◌*◌, ◌%◌, Result, Ok, Err, sym, ap, ◌∙◌, arith}
use Rattle.std.specs.Result.{IfOk}
use Rattle.zeta_model.specs.Sums.{numbered}
use Rattle.word_sums.specs.Terms.{coefficient_of}
use Rattle.zeta_expr.proofs.MeaningLemmas.{product_one}
use Rattle.zeta_expr.proofs.powers.times.Goals as goal

all_three : {T E : Type 0} (P Q R G : T → Type 0) → ((x : T) → P x → Q x → R x → G x) → (r : Result T E) → IfOk r P → IfOk r Q → IfOk r R → IfOk r G
all_three P Q R G f (Ok x) p q r = f x p q r
all_three P Q R G f (Err e) p q r = p

pub returns-then-is_one : goal.returns-then-is_one
returns-then-is_one g c =
    let ring = c.args.ring.now in
    let r = g.met.R.Ring in
    let v = g.R.Ring.value ring in
    let m = g.R.Ring.modulus ring in
    let one : v c.one.result ≡ 1 = ap v c.one.ensures ∙ r.value_one ring in
    all_three _ _ _ _
    (λ sum ok in_ring terms. record {
      terms = terms;
      in_ring = in_ring;
      coefficients = λ t.
          let a = coefficient_of v c.args.a.now t in
          let once : v c.one.result * a ≡ a = ap (λ n. n * a) one ∙ omega arith in
          ok t ∙ ap (λ n. n % m) once
          ∙ sym (product_one m (numbered v c.args.a.now) (numbered v c.args.b.now) (omega (arith, r.modulus_from ring))
          (c.is_one.ensures c.if-is_one.true) t);
    })
    c.scaled.result c.scaled.ensures.ok c.scaled.ensures.in_ring c.scaled.ensures.terms
