use Rattle.std.proofs.Common.{◌≡◌, ℕ, ◌+◌, ◌%◌, [], ◌∷◌, ◌++◌, length, cond, eqb, ◌∙◌, ap, arith}
use Rattle.linear_model.specs.Rows.{combination}
use Rattle.echelon.specs.Lists.{entries_of, row_at}
use Rattle.echelon.specs.Inner.{numbers_of}
use Rattle.echelon.proofs.Values.{scaled_sum}
use Rattle.echelon.proofs.combining.combined.Goals as goal

pub returns-clause-combined : goal.returns-clause-combined
returns-clause-combined g c =
    let ring = c.args.ring.now in
    let m = g.R.Ring.modulus ring in
    let value = g.R.Ring.value ring in
    let one : value c.one.result ≡ 1 = ap value c.one.ensures ∙ g.met.R.Ring.value_one ring in
    let pushed : c.push.new.self ≡ (c.args.n, c.one.result) ∷ [] =
    c.in_ok-push.ensures.ok ∙ ap (λ es. es ++ (c.args.n, c.one.result) ∷ []) c.zero-start.ensures in
    let start : (q : ℕ) → entries_of value c.push.new.self q ≡ cond (eqb c.args.n q) 1 0 =
    λ q. ap (λ es. entries_of value es q) pushed ∙ omega (arith, ap (λ x. cond (eqb c.args.n q) x 0) one) in
    scaled_sum m c.args.n (value c.args.scale) (length c.args.combinations.now) (row_at value c.args.combinations.now) (numbers_of value c.args.factors.now)
    (entries_of value c.in_ok-sum.sum) (entries_of value c.scale.new.self)
    (λ q. c.in_ok-sum.ensures.sum q
    ∙ ap (λ x. (x + combination (length c.args.combinations.now) (row_at value c.args.combinations.now) (numbers_of value c.args.factors.now) q) % m)
    (start q))
    c.scale.ensures.entries
