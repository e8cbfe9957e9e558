use Rattle.std.proofs.Common.{◌≡◌, Some, slice_get, sym, ap, subst, ◌∙◌}
use Rattle.column_order.specs.Ranks.{rank_of}
use Rattle.column_order.specs.Columns.{IsColumns}
use Rattle.column_order.specs.Inner.{AreColumns}
use Rattle.column_order.proofs.Places.{one_place}
use Rattle.column_order.proofs.columns.Columns.place.Goals as goal

pub returns-clause-place : goal.returns-clause-place
returns-clause-place c =
    let kept : AreColumns (rank_of c.self.inside.preference) c.self.inside.weight c.self.inside.depth c.self.inside.columns.items =
    c.self.invariant.columns in
    let list : IsColumns c.args.self.now = subst IsColumns c.self.view_is kept.list in
    λ i. (
      λ e. let same : c.search.result ≡ i = cc in ap (slice_get c.args.self.now.list) (sym same) ∙ c.search.ensures,
      λ e. ap Some (one_place (rank_of c.args.self.now.preference) c.args.self.now.list c.search.result i c.args.p.now list.in_order c.search.ensures e),
    )
