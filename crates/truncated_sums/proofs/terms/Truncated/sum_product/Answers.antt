use Rattle.std.proofs.Common.{◌≡◌, ℕ, ◌*◌, ◌%◌, sym, ap, ◌∙◌}
use Rattle.std.proofs.lemmas.Nat.{mul-mod}
use Rattle.truncated_sums.specs.Inverses.{inverse_of}
use Rattle.truncated_sums.specs.TruncatedSums.{word_value}
use Rattle.truncated_sums.proofs.StuffleSums.{word_value-stuffle}
use Rattle.truncated_sums.proofs.terms.Truncated.sum_product.Goals as goal

pub returns-clause-product : goal.returns-clause-product
returns-clause-product g c =
    let ring = c.args.self.now.0 in
    let m : ℕ = g.R.Ring.modulus ring in
    let inverse = inverse_of m in
    let n : ℕ = c.args.self.now.1 in
    let left : ℕ = word_value inverse n c.args.u in
    let right : ℕ = word_value inverse n c.args.v in
    let is : c.mul.result ≡ g.R.Ring.mul ring c.in_ok-left.left c.in_ok-right.right = c.mul.ensures
    ∙ ap (λ r. g.R.Ring.mul r c.in_ok-left.left c.in_ok-right.right) (ap (λ p. p.0) c.self.view_is) in
    ap (g.R.Ring.value ring) is ∙ g.met.R.Ring.value_mul ring c.in_ok-left.left c.in_ok-right.right c.in_ok-left.ensures.has c.in_ok-right.ensures.has
    ∙ (λ t. (c.in_ok-left.ensures.value t * c.in_ok-right.ensures.value t) % m) ∙ sym (mul-mod left right m)

pub returns-clause-stuffle : goal.returns-clause-stuffle
returns-clause-stuffle g c =
    let m : ℕ = g.R.Ring.modulus c.args.self.now.0 in
    returns-clause-product g c ∙ ap (λ x. x % m) (word_value-stuffle (inverse_of m) c.args.self.now.1 c.args.u c.args.v c.requires.index_u c.requires.index_v)
