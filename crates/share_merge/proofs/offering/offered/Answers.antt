use Rattle.std.proofs.Common.{◌≡◌, ◌≤◌, length, ◌∙◌, ap, subst, arith}
use Rattle.column_order.specs.Columns.{ColumnList, column_count}
use Rattle.share_merge.specs.Inner.{HasOffered}
use Rattle.share_merge.specs.Turns.{turns_of, share_count}
use Rattle.share_merge.proofs.RowPlaces.{places_count}
use Rattle.share_merge.proofs.TurnCounts.{turns_few}
use Rattle.share_merge.proofs.OfferedRows.{offered_none}
use Rattle.share_merge.proofs.offering.offered.Goals as goal

pub loop-t-init : goal.loop-t-init
loop-t-init g c =
    let t = c.args.table.now in
    let same = c.columns.ensures.columns in
    let counted : column_count t.columns.weight t.columns.depth ≤ 2048 =
    subst (λ (x : ColumnList). column_count x.weight x.depth ≤ 2048) same (omega (arith, c.len.ensures.count, c.len.ensures.within)) in
    offered_none (g.R.Ring.modulus t.ring) (g.R.Ring.has t.ring) (g.R.Ring.value t.ring) g.R.Ring.zero t c.args.shares.now
    c.columns.ensures.table c.columns.ensures.converts c.new-echelon.result c.ring.result.now c.len.result c.new-echelon.ensures c.ring.ensures
    (c.len.ensures.length ∙ ap (λ (x : ColumnList). length x.list) same) c.len.ensures.within counted

pub returns-clause-ok : goal.returns-clause-ok
returns-clause-ok g c =
    let t = c.args.table.now in
    let all : c.loop-t.t ≡ length c.args.places.now = omega (arith, c.loop-t.auto.t-end, c.loop-t-test.false) in
    subst (λ k. HasOffered (g.R.Ring.modulus t.ring) (g.R.Ring.has t.ring) (g.R.Ring.value t.ring) g.R.Ring.zero t c.args.shares.now k c.loop-t.echelon) all
    c.loop-t.invariant

pub overflow_cast-t-end : goal.overflow_cast-t-end
overflow_cast-t-end g c =
    let modulus = g.R.Ring.modulus in
    let has = g.R.Ring.has in
    let value = g.R.Ring.value in
    let t = c.args.table.now in
    let list = c.args.shares.now in
    let wide : length t.columns.list ≤ 2048 =
    omega (arith, c.len.ensures.within, c.len.ensures.length, ap (λ (x : ColumnList). length x.list) c.columns.ensures.columns) in
    omega (
      arith,
      places_count modulus has value list (turns_of list) c.args.places.now c.requires.places,
      turns_few modulus has value t (share_count list) list c.requires.shares c.requires.checked c.columns.ensures.table c.columns.ensures.converts wide,
    )
