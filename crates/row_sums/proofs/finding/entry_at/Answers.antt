use Rattle.std.proofs.Common.{rules, sym, ◌∙◌, ap, subst}
use Rattle.std.proofs.lemmas.List.Sorted.{answers_always}
use Rattle.sparse_rows.specs.Entries.{AllIn}
use Rattle.row_sums.proofs.FoundPairs.{found, not_found, in_ring_at}
use Rattle.row_sums.proofs.finding.entry_at.Goals as goal

pub returns-in-Ok-clause-has : goal.returns-in-Ok-clause-has
returns-in-Ok-clause-has g c =
    let inside = c.in-Ok.ensures.bound in
    in_ring_at (g.R.Ring.has c.args.ring.now) c.entries-entries.result.now c.in-Ok.place c.index-entries-place.result inside
    (subst (AllIn (g.R.Ring.has c.args.ring.now)) (sym c.entries-entries.ensures.entries) c.requires.in_ring)

pub returns-in-Ok-clause-value : goal.returns-in-Ok-clause-value
returns-in-Ok-clause-value g c =
    let value = g.R.Ring.value c.args.ring.now in
    let by_key = c.in-Ok.ensures.position (λ pair. pair.0) (answers_always _ _ _ (λ f a r g called. search rules)) in
    rw (← c.entries-entries.ensures.entries) (sym (found g.R.Ring.zero c.entries-entries.result.now
    (rw c.entries-entries.ensures.entries c.entries-entries.ensures.row) c.args.number value c.in-Ok.place c.index-entries-place.result c.in-Ok.ensures.bound by_key))

pub returns-in-Err-clause-value : goal.returns-in-Err-clause-value
returns-in-Err-clause-value g c =
    let value = g.R.Ring.value c.args.ring.now in
    let by_key = c.in-Err.ensures.position (λ pair. pair.0) (answers_always _ _ _ (λ f a r g called. search rules)) in
    ap value c.zero.ensures ∙ g.met.R.Ring.value_zero c.args.ring.now
    ∙ rw (← c.entries-entries.ensures.entries) (sym (not_found g.R.Ring.zero c.entries-entries.result.now
    (rw c.entries-entries.ensures.entries c.entries-entries.ensures.row) c.args.number value c.in-Err.field-0 (0, g.R.Ring.zero) by_key))
