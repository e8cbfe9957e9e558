use Rattle.std.proofs.Common.{◌≡◌, ◌-◌, ◌*◌, ◌%◌, ◌<◌, ◌∷◌, length, rules, sym, ap, subst, ◌∙◌, arith}
use Rattle.zeta_model.specs.Modular.{Same}
use Rattle.word_sums.specs.Sums.{IsSumOf}
use Rattle.cert_checker.proofs.Gaining.{key_below, gaining-more, gaining-end, same-negative}
use Rattle.cert_checker.proofs.NamedValues.{named-value}
use Rattle.cert_checker.proofs.row_check.take_values.Goals as goal

pub loop-entry-preserved : goal.loop-entry-preserved
loop-entry-preserved g c =
    let ring = c.args.ring.now in
    let m = g.R.Ring.modulus ring in
    let begins : c.loop-entry.rest.now ≡ c.in-Some.entry.now ∷ c.in-Some.behind.now = search rules in
    let inside : c.in-Some.entry.now.0 < length c.args.names.now = key_below _ _ _ _ _ _ _ _ _ _ _ _ _ begins c.loop-entry.invariant in
    let here = named-value m c.args.names.now c.in-Some.entry.now.0 c.index-names-entry.result inside c.index-names-entry.is in
    let of_value = subst (λ s. IsSumOf g.R.Ring.zero (g.R.Ring.has ring) (g.R.Ring.value ring) m s c.in_ok-value.value) (sym here)
    c.in_ok-value.ensures.value in
    let factor : Same m (g.R.Ring.value ring c.neg.result) ((m - 1) * c.in-Some.entry.now.1) =
    same-negative m c.in-Some.entry.now.1 (g.R.Ring.value ring c.of.result) (g.R.Ring.value ring c.neg.result)
    (omega (arith, g.met.R.Ring.modulus_from ring)) (c.of.ensures.value ∙ ap (λ x. x % m) c.from.ensures)
    (ap (g.R.Ring.value ring) c.neg.ensures ∙ g.met.R.Ring.value_neg ring c.of.result c.of.ensures.has) in
    gaining-more _ _ _ _ _ _ _ _ _ _ _ _ _ begins c.loop-entry.invariant _ _ c.neg.result of_value factor
    (record { terms = c.in_ok-add_scaled.ensures.terms; in_ring = c.in_ok-add_scaled.ensures.in_ring }) c.in_ok-add_scaled.ensures.ok

pub returns-clause-ok : goal.returns-clause-ok
returns-clause-ok g c = λ t.
    gaining-end _ _ _ _ _ _ _ _ _ _ _ c.in_default.ensures.cases c.loop-entry.invariant t
