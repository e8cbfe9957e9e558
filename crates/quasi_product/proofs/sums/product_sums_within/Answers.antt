use Rattle.std.proofs.Common.{◌≡◌, true}
use Rattle.zeta_model.specs.Sums.{numbered}
use Rattle.word_sums.proofs.SumLemmas.{IsSum-none, IsSumOf-gained, words_of_sum}
use Rattle.quasi_product.specs.SumProducts.{product_of_terms}
use Rattle.quasi_product.proofs.SumProductLemmas.{product_of_terms-covered}
use Rattle.quasi_product.proofs.sums.product_sums_within.Goals as goal

pub add_sum_product-requires-clause-sum : goal.add_sum_product-requires-clause-sum
add_sum_product-requires-clause-sum g c = IsSum-none g.R.Ring.zero (g.R.Ring.has c.args.ring.now) c.new-sum.result c.new-sum.ensures

pub returns-clause-value : goal.returns-clause-value
returns-clause-value g c =
    let ring = c.args.ring.now in
    let value = g.R.Ring.value ring in
    IsSumOf-gained g.R.Ring.zero (g.R.Ring.has ring) value (g.R.Ring.modulus ring) c.new-sum.result c.add_sum_product.new.sum
    (product_of_terms g.L.Letters.alphabet (numbered value c.args.a.now)
    (numbered value c.args.b.now)) c.new-sum.ensures c.in_ok-add_sum_product.ensures.sum c.in_ok-add_sum_product.ensures.ok

pub returns-clause-covered : goal.returns-clause-covered
returns-clause-covered g c =
    let ring = c.args.ring.now in
    let r = g.met.R.Ring in
    let value = g.R.Ring.value ring in
    let L = g.L.Letters.alphabet in
    words_of_sum g.R.Ring.zero (g.R.Ring.has ring) value (g.R.Ring.modulus ring) (λ w. L.covered w ≡ true)
    (product_of_terms L (numbered value c.args.a.now) (numbered value c.args.b.now)) c.add_sum_product.new.sum
    (r.has_zero ring) (r.value_zero ring) (r.value_injective ring) (returns-clause-value g c)
    (λ t some. product_of_terms-covered value L g.met.L.Letters.laws c.args.a.now c.args.b.now t c.requires.covers_a c.requires.covers_b c.requires.fits some)
