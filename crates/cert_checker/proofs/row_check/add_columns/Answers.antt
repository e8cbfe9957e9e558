use Rattle.std.proofs.Common.{◌≡◌, ◌+◌, ◌*◌, ◌%◌, [], ◌∷◌, rules, slice_get, sym, ap, subst, ◌∙◌, arith}
use Rattle.std.proofs.lemmas.Option.{get_or_from_slice_get}
use Rattle.zeta_model.specs.Modular.{Same}
use Rattle.zeta_model.proofs.ModularLemmas.{same-mod}
use Rattle.word_sums.specs.Sums.{IsSumOf}
use Rattle.word_sums.specs.Terms.{coefficient_of}
use Rattle.table_model.specs.MonomialWords.{words_of_monomial, words_of_row}
use Rattle.cert_checker.specs.Certified.{residues_at}
use Rattle.cert_checker.proofs.Gaining.{gaining-more, gaining-end}
use Rattle.cert_checker.proofs.row_check.add_columns.Goals as goal

pub loop-entry-preserved : goal.loop-entry-preserved
loop-entry-preserved g c =
    let ring = c.args.ring.now in
    let begins : c.loop-entry.rest.now ≡ c.in-Some.entry.now ∷ c.in-Some.behind.now = search rules in
    let list = c.args.columns.now.list in
    let here = get_or_from_slice_get list c.in-Some.entry.now.0 c.at.result.now [] (ap (slice_get list) (sym c.from.ensures) ∙ c.at.ensures.at) in
    let of_words = subst (λ p. IsSumOf g.R.Ring.zero (g.R.Ring.has ring) (g.R.Ring.value ring) (g.R.Ring.modulus ring) (words_of_monomial p)
    c.in_ok-words.words)
    (sym here) c.in_ok-words.ensures in
    let factor : Same (g.R.Ring.modulus ring) (g.R.Ring.value ring c.of.result) (1 * c.in-Some.entry.now.1) =
    ap (λ x. x % g.R.Ring.modulus ring) (c.of.ensures.value ∙ ap (λ x. x % g.R.Ring.modulus ring) c.from-in-Some.ensures)
    ∙ same-mod (g.R.Ring.modulus ring) c.in-Some.entry.now.1 ∙ ap (λ x. x % g.R.Ring.modulus ring) (omega arith) in
    gaining-more _ _ _ _ _ _ _ _ _ _ _ _ _ begins c.loop-entry.invariant _ _ c.of.result of_words factor
    (record { terms = c.in_ok-add_scaled.ensures.terms; in_ring = c.in_ok-add_scaled.ensures.in_ring }) c.in_ok-add_scaled.ensures.ok

pub returns-clause-ok : goal.returns-clause-ok
returns-clause-ok g c = λ t.
    let ring = c.args.ring.now in
    let w = words_of_row c.args.columns.now.list (residues_at c.args.row.now) t in
    let s = coefficient_of (g.R.Ring.value ring) c.args.sum.now t in
    gaining-end _ _ _ _ _ _ _ _ _ _ _ c.in_default.ensures.cases c.loop-entry.invariant t
    ∙ ap (λ x. x % g.R.Ring.modulus ring) (let e : s + 1 * w ≡ s + w = omega arith in e)
