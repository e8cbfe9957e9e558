use Rattle.std.proofs.Common.{◌≡◌, ◌*◌, ◌%◌, true, ap, ◌∙◌, arith}
use Rattle.zeta_model.specs.Product.{prod}
use Rattle.zeta_model.specs.Sums.{single, sum_of}
use Rattle.zeta_model.proofs.ProductWords.{prod-covered}
use Rattle.word_sums.specs.Terms.{coefficient_of}
use Rattle.word_sums.proofs.SumLemmas.{IsSum-none, IsSumOf-gained, words_of_sum}
use Rattle.quasi_product.proofs.GainLemmas.{gains_modulo}
use Rattle.quasi_product.proofs.MergeLemmas.{coefficient_of-weighted}
use Rattle.quasi_product.proofs.products.product_within.Goals as goal

pub add_terms-requires-clause-sum : goal.add_terms-requires-clause-sum
add_terms-requires-clause-sum g c = IsSum-none g.R.Ring.zero (g.R.Ring.has c.args.ring.now) c.in_ok-sum.sum c.in_ok-sum.ensures

pub returns-clause-value : goal.returns-clause-value
returns-clause-value g c =
    let ring = c.args.ring.now in
    let value = g.R.Ring.value ring in
    let m = g.R.Ring.modulus ring in
    let one : value c.one.result ≡ 1 = ap value c.one.ensures ∙ g.met.R.Ring.value_one ring in
    IsSumOf-gained g.R.Ring.zero (g.R.Ring.has ring) value m c.in_ok-sum.sum c.add_terms.new.sum
    (sum_of (prod g.L.Letters.alphabet c.args.u c.args.v)) c.in_ok-sum.ensures c.in_ok-add_terms.ensures.sum
    (gains_modulo m _ _ _ _
    (λ t.
    ap (λ es. coefficient_of value es t % m) c.as_slice.ensures.value ∙ ap (λ n. n % m) (coefficient_of-weighted value c.in_ok-terms.terms.items t)
    ∙ c.in_ok-terms.ensures.ok.counts (λ w. single w t)
    ∙ (λ i. one i * sum_of (prod g.L.Letters.alphabet c.args.u c.args.v) t % m) ∙ ap (λ n. n % m) (omega arith))
    c.in_ok-add_terms.ensures.ok)

pub returns-clause-covered : goal.returns-clause-covered
returns-clause-covered g c =
    let ring = c.args.ring.now in
    let r = g.met.R.Ring in
    words_of_sum g.R.Ring.zero (g.R.Ring.has ring) (g.R.Ring.value ring) (g.R.Ring.modulus ring) (λ w. g.L.Letters.alphabet.covered w ≡ true)
    (sum_of (prod g.L.Letters.alphabet c.args.u c.args.v)) c.add_terms.new.sum
    (r.has_zero ring) (r.value_zero ring) (r.value_injective ring) (returns-clause-value g c)
    (λ t some. prod-covered 24 g.L.Letters.alphabet g.met.L.Letters.laws c.args.u c.args.v t c.requires.covers_u c.requires.covers_v c.requires.fits some)
