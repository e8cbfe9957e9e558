use Rattle.std.proofs.Common.{◌≡◌, ◌+◌, ◌<◌, ◌++◌, [], ◌∷◌, length, get_or, sym, ◌∙◌, ap, subst, arith}
use Rattle.std.proofs.lemmas.List.{get_or_default}
use Rattle.echelon.specs.Lists.{entries_of, lead_of}
use Rattle.echelon.specs.Inner.{unit_row, IsRest, AreFound}
use Rattle.echelon.proofs.LessStanding.{found_skip, found_more}
use Rattle.echelon.proofs.reducing.rows_by_standing.Goals as goal
use Rattle.echelon.proofs.reducing.rows_by_standing.Goals.{in-Some+in_ok-row+else-lead_column-column+in_ok-push, in_default}

pub loop-column-preserved : goal.loop-column-preserved
loop-column-preserved g c =
    let ring = c.args.ring.now in
    let m = g.R.Ring.modulus ring in
    let has = g.R.Ring.has ring in
    let value = g.R.Ring.value ring in
    let rows = c.args.rows.now in
    let column = c.loop-column.column in
    let made = c.loop-column.made.items in
    elim c.match-place_of.branch [
      | in-Some+in_ok-row+else-lead_column-column+in_ok-push w ↦
          let inside : column < length c.in_ok-standing.standing.items = omega (arith, c.loop-column-test.true, c.in_ok-standing.ensures.count) in
          let row_is : w.index.result.now ≡ get_or c.in_ok-standing.standing.items column [] =
          w.index.ensures ∙ get_or_default c.in_ok-standing.standing.items column w.index.result.now [] inside in
          let stands : IsRest m value rows (unit_row column) (entries_of value w.index.result.now) =
          subst (λ es. IsRest m value rows (unit_row column) (entries_of value es)) (sym row_is) (c.in_ok-standing.ensures.stand column inside) in
          let leads : lead_of w.in_ok-row.row ≡ column = omega (arith, w.lead_column.ensures, w.if-lead_column-column.false) in
          found_more m has value c.args.columns rows column made c.loop-column.invariant w.in_ok-row.row c.match-place_of.made.items
          w.in_ok-row.ensures.below w.in_ok-row.ensures.in_ring (w.in_ok-row.ensures.span rows stands) leads
          (ap (λ v. v.items) w.made-is ∙ w.in_ok-push.ensures.items)
      | in_default w ↦ subst (λ v. AreFound m has value c.args.columns rows (column + 1) v.items) (sym w.made-is)
          (found_skip m has value c.args.columns rows column made c.loop-column.invariant w.in_default.ensures.none)
    ]
