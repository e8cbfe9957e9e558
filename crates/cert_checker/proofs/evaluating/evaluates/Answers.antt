use Rattle.std.proofs.Common.{◌≡◌, ℕ, ◌+◌, ◌<◌, length, ap, subst, ◌∙◌, arith}
use Rattle.std.specs.Prelude.{◌↔◌, IsTrue}
use Rattle.zeta_model.specs.Modular.{Same}
use Rattle.echelon.specs.Lists.{entries_of}
use Rattle.table_model.specs.MonomialWords.{words_of_row, sum_combination}
use Rattle.table_model.specs.ListedSpan.{values_of}
use Rattle.cert_checker.specs.Inner.{numbers_of, word_at}
use Rattle.cert_checker.proofs.Certifying.{left-same}
use Rattle.cert_checker.proofs.Evaluated.{evaluated, count-listed}
use Rattle.cert_checker.proofs.evaluating.evaluates.Goals as goal

pub returns-clause-evaluates : goal.returns-clause-evaluates
returns-clause-evaluates g c =
    let ring = c.args.products.now.ring in
    let m = g.R.Ring.modulus ring in
    let total = g.R.Ring.total ring in
    let columns = c.args.columns.now in
    let row = entries_of (g.R.Ring.value ring) c.args.row.now in
    let combination = entries_of (g.R.Ring.value ring) c.args.combination.now in
    let k = length c.args.names.now in
    let begin = c.as_mut_slice-sums.result.now in
    let gained = c.add_words.new.sums in
    let left = c.take_values.new.sums in
    let pos : 0 < m = omega (arith, g.met.R.Ring.modulus_from ring) in
    let begun : begin ≡ c.in_ok-start.start.items = c.as_mut_slice-sums.ensures.value in
    let rings : c.ring.result.now ≡ ring = c.ring.ensures in
    let long : length left ≡ length columns.list =
    c.in_ok-take_values.ensures.len ∙ c.add_words.ensures.len ∙ ap length begun ∙ c.in_ok-start.ensures.len ∙ c.len.ensures.length in
    let zeros = subst (λ r. (q : ℕ) → numbers_of (g.R.Ring.total r) c.in_ok-start.start.items q ≡ 0) rings c.in_ok-start.ensures.zero in
    let added = subst (λ r. (q : ℕ) → q < length columns.list → Same (g.R.Ring.modulus r) (numbers_of (g.R.Ring.total r) gained q)
    (numbers_of (g.R.Ring.total r) begin q + words_of_row columns.list (entries_of (g.R.Ring.value r) c.args.row.now) (word_at columns q))) rings
    c.add_words.ensures.sum in
    let told = subst (λ r. IsTrue c.all_zero.result ↔ ((q : ℕ) → q < length left → Same (g.R.Ring.modulus r) (numbers_of (g.R.Ring.total r) left q) 0)) rings
    c.all_zero.ensures in
    let both = evaluated m columns c.requires.table row combination k (count-listed columns c.args.names.now c.requires.values.listed) (numbers_of total left)
    (λ q l. left-same m pos (numbers_of total left q) (numbers_of total begin q) (words_of_row columns.list row (word_at columns q))
    (sum_combination k (values_of m columns) combination (word_at columns q))
    (ap (λ xs. numbers_of total xs q) begun ∙ zeros q) (numbers_of total gained q) (added q l)
    (c.in_ok-take_values.ensures.sum q l)) in (
      λ t. both.0 (λ q l. told.0 t q (omega (arith, long))),
      λ is. told.1 (λ q l. both.1 is q (omega (arith, long))),
    )
