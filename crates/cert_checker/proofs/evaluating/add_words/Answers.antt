use Rattle.std.proofs.Common.{◌≡◌, ◌+◌, ◌*◌, ◌%◌, ◌<◌, [], length, get_or, sym, ap, subst, ◌∙◌, arith}
use Rattle.std.proofs.lemmas.List.{get_or_default}
use Rattle.zeta_model.specs.Modular.{Same}
use Rattle.echelon.specs.Lists.{entries_of}
use Rattle.table_model.specs.MonomialWords.{column_at, words_of_monomial, words_of_row}
use Rattle.cert_checker.specs.Inner.{numbers_of, word_at, IsPlaced}
use Rattle.cert_checker.proofs.SummingPlaces.{key_below, summing-more, summing-end}
use Rattle.cert_checker.proofs.evaluating.add_words.Goals as goal

pub loop-entry-preserved : goal.loop-entry-preserved
loop-entry-preserved g c =
    let ring = c.args.ring.now in
    let m = g.R.Ring.modulus ring in
    let words = c.args.words.now in
    let i = c.in-Some.entry.now.0 in
    let inside : i < length words =
    omega (arith, c.requires.words.count, key_below _ _ _ _ _ _ _ _ _ _ _ _ _ _ _ c.in-Some.ensures.cases.0 c.loop-entry.invariant) in
    let from : c.from.result < length words = omega (arith, c.from.ensures) in
    let there = c.entries-column.ensures ∙ c.index-words-from.is ∙ get_or_default words c.from.result c.index-words-from.result [] from
    ∙ ap (λ k. get_or words k []) c.from.ensures in
    let of_column = subst (IsPlaced m (g.R.Ring.has ring) (g.R.Ring.value ring) c.args.columns.now (words_of_monomial (column_at c.args.columns.now.list i)))
    (sym there) (c.requires.words.each i inside) in
    let factor : Same m (g.R.Ring.value ring c.in-Some.entry.now.1) (1 * g.R.Ring.value ring c.in-Some.entry.now.1) = ap (λ x. x % m) (omega arith) in
    summing-more _ _ _ _ _ _ _ _ _ _ _ _ _ _ _ c.in-Some.ensures.cases.0 c.loop-entry.invariant c.entries-column.result.now c.in-Some.entry.now.1 _
    of_column factor c.add_entries.ensures.len c.add_entries.ensures.all c.add_entries.ensures.sum

pub returns-clause-sum : goal.returns-clause-sum
returns-clause-sum g c = λ q l.
    let ring = c.args.ring.now in
    let w = words_of_row c.args.columns.now.list (entries_of (g.R.Ring.value ring) c.args.row.now) (word_at c.args.columns.now q) in
    let s = numbers_of (g.R.Ring.total ring) c.args.sums.now q in
    summing-end _ _ _ _ _ _ _ _ _ _ _ _ _ c.in_default.ensures.cases c.loop-entry.invariant q l
    ∙ ap (λ x. x % g.R.Ring.modulus ring) (let e : s + 1 * w ≡ s + w = omega arith in e)
