use Rattle.std.proofs.Common.{sym, subst, ◌∙◌}
use Rattle.zeta_model.specs.Sums.{Sum}
use Rattle.word_sums.specs.Sums.{IsSumOf}
use Rattle.cert_checker.specs.Inner.{IsPlaced}
use Rattle.cert_checker.proofs.MadeValues.{listed-value, value-there, one-value-more}
use Rattle.cert_checker.proofs.evaluating.make_value.Goals as goal

pub returns-clause-values : goal.returns-clause-values
returns-clause-values g c =
    let ring = c.args.products.now.ring in
    let m = g.R.Ring.modulus ring in
    let rings = c.ring.ensures ∙ c.in_ok-sum.ensures.ring in
    let places = subst (λ r. (s : Sum) → IsSumOf g.R.Ring.zero (g.R.Ring.has r) (g.R.Ring.value r) (g.R.Ring.modulus r) s c.in_ok-sum.sum
    → IsPlaced (g.R.Ring.modulus r) (g.R.Ring.has r) (g.R.Ring.value r) c.args.columns.now s c.in_ok-values.field-0) rings c.in_ok-values.ensures in
    let named = listed-value m c.args.columns.now c.args.names.now c.args.n c.index-names-i.result c.requires.values.listed c.requires.inside
    c.index-names-i.is in
    one-value-more m (g.R.Ring.has ring) (g.R.Ring.value ring) c.args.columns.now c.args.names.now c.args.values.now.items c.args.n c.in_ok-values.field-0
    c.requires.values c.requires.inside
    (subst (λ s. IsPlaced m (g.R.Ring.has ring) (g.R.Ring.value ring) c.args.columns.now s c.in_ok-values.field-0) (sym named)
    (places _ c.in_ok-sum.ensures.value))

pub returns-clause-made : goal.returns-clause-made
returns-clause-made g c =
    let ring = c.args.products.now.ring in
    let m = g.R.Ring.modulus ring in
    let rings = c.ring.ensures ∙ c.in_ok-sum.ensures.ring in
    let places = subst (λ r. (s : Sum) → IsSumOf g.R.Ring.zero (g.R.Ring.has r) (g.R.Ring.value r) (g.R.Ring.modulus r) s c.in_ok-sum.sum
    → IsPlaced (g.R.Ring.modulus r) (g.R.Ring.has r) (g.R.Ring.value r) c.args.columns.now s c.in_ok-values.field-0) rings c.in_ok-values.ensures in
    let named = listed-value m c.args.columns.now c.args.names.now c.args.n c.index-names-i.result c.requires.values.listed c.requires.inside
    c.index-names-i.is in
    value-there m (g.R.Ring.has ring) (g.R.Ring.value ring) c.args.columns.now c.args.names.now c.args.values.now.items c.args.n c.in_ok-values.field-0
    c.requires.values c.requires.inside
    (subst (λ s. IsPlaced m (g.R.Ring.has ring) (g.R.Ring.value ring) c.args.columns.now s c.in_ok-values.field-0) (sym named)
    (places _ c.in_ok-sum.ensures.value))
