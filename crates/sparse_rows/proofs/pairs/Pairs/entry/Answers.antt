use Rattle.std.proofs.Common.{◌≡◌, ◌∷◌, rules, sym, ap, ◌∙◌}
use Rattle.sparse_rows.specs.Entries.{entry_of}
use Rattle.sparse_rows.proofs.EntryLemmas.{entry_of_begun}
use Rattle.sparse_rows.proofs.pairs.Pairs.entry.Goals as goal

pub returns-then-number-clause-value : goal.returns-then-number-clause-value
returns-then-number-clause-value g c =
    let begins : c.loop-first.rest.now ≡ c.in-Some.first.now ∷ c.in-Some.behind.now = search rules in
    let same : g.K.Key.number c.in-Some.first.now.0 ≡ g.K.Key.number c.args.key = search rules in
    sym (ap (λ row. entry_of g.K.Key.number (g.R.Ring.value c.args.ring.now) row (g.K.Key.number c.args.key)) (sym c.self.view_is
    ∙ sym c.as_slice-rest.ensures.value)
    ∙ c.loop-first.invariant.2
    ∙ entry_of_begun g.K.Key.number g.R.Ring.zero (g.R.Ring.value c.args.ring.now) c.loop-first.invariant.0.0
    (g.K.Key.number c.args.key) c.in-Some.first.now c.loop-first.rest.now c.in-Some.behind.now c.loop-first.invariant.0.1 begins same)
