use Rattle.std.proofs.Common.{ℕ}
use Rattle.zeta_model.specs.Product.{prod}
use Rattle.zeta_model.specs.Sums.{sum_of}
use Rattle.zeta_model.proofs.ModularLemmas.{same-mul_left}
use Rattle.word_sums.specs.Terms.{coefficient_of}
use Rattle.quasi_product.proofs.GainLemmas.{gains_modulo}
use Rattle.relation_list.proofs.ValueLemmas.{from_rest}
use Rattle.kept_products.specs.Inner.{alphabet_of}
use Rattle.kept_products.proofs.StoreLemmas.{on_ok}
use Rattle.kept_products.proofs.adding.add_kept.Goals as goal

pub add_multiple-requires-clause-other_in_ring : goal.add_multiple-requires-clause-other_in_ring
add_multiple-requires-clause-other_in_ring g c =
    let ring = c.args.ring.now in
    (c.product_at.ensures g.R.Ring.zero (g.R.Ring.has ring) (g.R.Ring.value ring) (g.R.Ring.modulus ring) c.args.kind c.args.u c.args.v
    c.in_ok-place.ensures.there).value_is.in_ring

pub returns-clause-ok : goal.returns-clause-ok
returns-clause-ok g c =
    let ring = c.args.ring.now in
    let m : ℕ = g.R.Ring.modulus ring in
    let value = g.R.Ring.value ring in
    let product =
    c.product_at.ensures g.R.Ring.zero (g.R.Ring.has ring) value m c.args.kind c.args.u c.args.v c.in_ok-place.ensures.there in
    on_ok _ _
    (gains_modulo m _ _ _ _
    (λ t.
    let s : ℕ = sum_of (prod (alphabet_of c.args.kind) c.args.u c.args.v) t in
    same-mul_left m (coefficient_of value c.product_at.result.now t) s (value c.args.c)
    (from_rest m (coefficient_of value c.product_at.result.now t) s (product.value_is.coefficients t))))
    c.add_multiple.result c.add_multiple.ensures.ok
