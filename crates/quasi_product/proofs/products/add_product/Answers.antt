use Rattle.std.proofs.Common.{◌%◌, ap, ◌∙◌}
use Rattle.zeta_model.specs.Sums.{single}
use Rattle.word_sums.specs.Terms.{coefficient_of}
use Rattle.quasi_product.proofs.GainLemmas.{gains_modulo}
use Rattle.quasi_product.proofs.MergeLemmas.{coefficient_of-weighted}
use Rattle.quasi_product.proofs.products.add_product.Goals as goal

pub returns-clause-ok : goal.returns-clause-ok
returns-clause-ok g c =
    let m = g.R.Ring.modulus c.args.ring.now in
    let value = g.R.Ring.value c.args.ring.now in
    gains_modulo m _ _ _ _
    (λ t.
    ap (λ es. coefficient_of value es t % m) c.as_slice.ensures.value ∙ ap (λ n. n % m) (coefficient_of-weighted value c.in_ok-terms.terms.items t)
    ∙ c.in_ok-terms.ensures.ok.counts (λ w. single w t))
    c.in_ok-add_terms.ensures.ok
