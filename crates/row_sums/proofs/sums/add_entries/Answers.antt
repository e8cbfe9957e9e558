use Rattle.std.proofs.Common.{◌≡◌, ◌+◌, ◌*◌, ◌%◌, get_or, ◌∙◌, ap}
use Rattle.row_sums.proofs.Adding.{added, added_all}
use Rattle.row_sums.proofs.sums.add_entries.Goals as goal

pub loop-entry-preserved : goal.loop-entry-preserved
loop-entry-preserved g c =
    let total = g.R.Ring.total c.args.ring.now in
    let value = g.R.Ring.value c.args.ring.now in
    let here : c.index-sums-place.result ≡ get_or c.loop-entry.sums (g.K.Key.number c.in-Some.entry.now.0) c.index-sums-place.result =
    c.index-sums-place.is ∙ ap (λ i. get_or c.loop-entry.sums i c.index-sums-place.result) c.number-place.ensures in
    rw c.number-place.ensures (
    added _ _ _ _ _ _ _ _ _ _ _ _ _ c.loop-entry.invariant c.in-Some.ensures.cases.0 c.add_product.result c.index-sums-place.result c.add_product.ensures.is_sum
    (c.add_product.ensures.total ∙ ap (λ x. (total x + value c.args.c * value c.in-Some.entry.now.1) % g.R.Ring.modulus c.args.ring.now) here)
    )

pub returns-clause-sum : goal.returns-clause-sum
returns-clause-sum g c =
    added_all _ _ _ _ _ _ _ _ _ _ _ c.loop-entry.invariant c.in_default.ensures.cases
