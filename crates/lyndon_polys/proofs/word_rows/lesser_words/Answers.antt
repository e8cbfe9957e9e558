use Rattle.std.proofs.Common.{◌≡◌, ◌+◌, ◌-◌, ◌*◌, ◌%◌, ◌∙◌, ap, arith}
use Rattle.zeta_model.specs.Sums.{single}
use Rattle.table_model.specs.MonomialWords.{words_of_monomial}
use Rattle.lyndon_words.specs.Lyndon.{joined}
use Rattle.word_sums.specs.Terms.{coefficient_of}
use Rattle.lyndon_polys.specs.Inner.{leading}
use Rattle.lyndon_polys.proofs.Inverting.{undone_by_opposite}
use Rattle.lyndon_polys.proofs.LesserWords.{taken_away}
use Rattle.lyndon_polys.proofs.word_rows.lesser_words.Goals as goal

pub returns-clause-value : goal.returns-clause-value
returns-clause-value g c t =
    let ring = c.args.ring.now in
    let m = g.R.Ring.modulus ring in
    let value = g.R.Ring.value ring in
    let p = c.args.p.now in
    let n = value c.neg.result in
    let leads : value c.coefficient-coefficient.result ≡ leading p % m =
    c.coefficient-coefficient.ensures.value ∙ c.in_ok-sum.ensures.coefficients c.word-word.result
    ∙ ap (λ w. words_of_monomial p w % m) c.word-word.ensures.joined in
    let opposite : n ≡ (m - leading p % m) % m =
    ap value c.neg.ensures ∙ g.met.R.Ring.value_neg ring c.coefficient-coefficient.result c.coefficient-coefficient.ensures.has
    ∙ ap (λ x. (m - x) % m) leads in
    taken_away m (words_of_monomial p t) (coefficient_of value c.in_ok-sum.sum t) (coefficient_of value c.add_term.new.self t) (leading p) n
    (single (joined p) t)
    (c.in_ok-add_term.ensures.ok t ∙ ap (λ w. (coefficient_of value c.in_ok-sum.sum t + n * single w t) % m) c.word-word.ensures.joined)
    (c.in_ok-sum.ensures.coefficients t)
    (undone_by_opposite m (leading p) n (omega (arith, g.met.R.Ring.modulus_from ring)) opposite)
