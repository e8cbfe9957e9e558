use Rattle.std.proofs.Common.{◌≡◌, ◌+◌, [], ◌∷◌, ◌++◌, length, sym, ◌∙◌, ap, subst}
use Rattle.sparse_rows.specs.Entries.{AllIn}
use Rattle.echelon.specs.States.{AllIns}
use Rattle.echelon.proofs.RowLists.{at_each, length-push}
use Rattle.echelon.proofs.echelon.Echelon.keep.Goals as goal

pub invariant_of-self-2 : goal.invariant_of-self-2
invariant_of-self-2 g c =
    let t = c.keep.new.self in
    let s = c.self.inside.core in
    let kept : t ≡ record s { above = c.args.n + 1; numbers = s.numbers ++ c.args.n ∷ []; rows = s.rows ++ c.args.row.now ∷ [] } =
    c.in_ok-keep.ensures.ok in
    let items : c.push_reserved.new.self.items ≡ c.self.inside.combinations.items ++ c.args.combination.now ∷ [] =
    c.push_reserved.ensures.items ∙ (λ i. c.in_ok-reserve.ensures.items i ++ c.in_ok-copy.ensures.ok i ∷ []) in
    let rows_is : t.rows ≡ s.rows ++ c.args.row.now ∷ [] = ap (λ u. u.rows) kept in
    let ring_is : t.ring ≡ s.ring = ap (λ u. u.ring) kept in
    let in_ring : AllIn (g.R.Ring.has s.ring) c.args.combination.now =
    subst (λ u. AllIn (g.R.Ring.has u.core.ring) c.args.combination.now) (sym c.self.view_is) c.requires.in_ring in (
      ap length items ∙ length-push c.self.inside.combinations.items c.args.combination.now ∙ ap (λ n. n + 1) c.self.invariant.0
          ∙ sym (ap length rows_is ∙ length-push s.rows c.args.row.now),
      subst (λ cs. AllIns (g.R.Ring.has t.ring) cs) (sym items)
          (subst (λ r. AllIns (g.R.Ring.has r) (c.self.inside.combinations.items ++ c.args.combination.now ∷ [])) (sym ring_is)
          (at_each c.self.inside.combinations.items c.args.combination.now [] (λ i es. AllIn (g.R.Ring.has s.ring) es) c.self.invariant.1 in_ring)),
    )
