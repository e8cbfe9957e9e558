use Rattle.std.proofs.Common.{ℕ, ◌+◌, ◌/◌, ◌-◌, ◌<◌, slice_get, sym, ap, ◌∙◌, arith}
use Rattle.std.specs.declared.cmp.Ordering.TheVariants.{Less, Equal, Greater}
use Rattle.column_order.specs.Ranks.{rank_of}
use Rattle.column_order.specs.Inner.{AreColumns}
use Rattle.column_order.proofs.Places.{Compares, compares, column_place, place_behind, place_before, place_here}
use Rattle.column_order.proofs.columns.Columns.search.Goals as goal

pub loop-low-init : goal.loop-low-init
loop-low-init c =
    let a : AreColumns (rank_of c.self.inside.preference) c.self.inside.weight c.self.inside.depth c.self.inside.columns.items = c.self.invariant.columns in
    let r = column_place (rank_of c.self.inside.preference) c.self.inside.weight c.self.inside.depth c.self.inside.columns.items c.args.p.now a c.standing-standing.ensures.monomial
    (c.requires.weight ∙ ap (λ v. v.weight) (sym c.self.view_is)) (omega (arith, c.requires.depth, ap (λ v. v.depth) c.self.view_is)) in
    record {
      within = omega (arith, c.len-high.ensures);
      place = (r.0, omega arith, omega (arith, r.1, c.len-high.ensures), r.2);
    }

pub loop-low-preserved-in-Less : goal.loop-low-preserved-in-Less
loop-low-preserved-in-Less c =
    let middle : ℕ = c.loop-low.low + (c.loop-low.high - c.loop-low.low) / 2 in
    let p = c.loop-low.invariant.place in
    let r : Compares (rank_of c.self.inside.preference) c.self.inside.columns.items middle c.args.p.now Less =
    compares (rank_of c.self.inside.preference)
    (rank_of c.new-rule.result.preference) c.self.inside.weight c.self.inside.depth c.self.inside.columns.items middle c.index-column.result.now c.args.p.now c.standing-standing.result Less c.lead_order.result
    c.self.invariant.columns (omega (arith, c.loop-low-test.true, c.loop-low.invariant.within)) c.index-column.ensures c.standing-standing.ensures.standing
    (ap rank_of c.new-rule.ensures.preference) c.lead_order.ensures c.in-Less.is in
    let behind : middle < p.0 = place_behind (rank_of c.self.inside.preference) c.self.inside.columns.items p.0 middle c.args.p.now r p.3 in
    record {
      within = c.loop-low.invariant.within;
      place = (p.0, omega (arith, behind), p.2, p.3);
    }

pub returns-in-Equal : goal.returns-in-Equal
returns-in-Equal c =
    let middle : ℕ = c.loop-low.low + (c.loop-low.high - c.loop-low.low) / 2 in
    let r : Compares (rank_of c.self.inside.preference) c.self.inside.columns.items middle c.args.p.now Equal =
    compares (rank_of c.self.inside.preference)
    (rank_of c.new-rule.result.preference) c.self.inside.weight c.self.inside.depth c.self.inside.columns.items middle c.index-column.result.now c.args.p.now c.standing-standing.result Equal c.lead_order.result
    c.self.invariant.columns (omega (arith, c.loop-low-test.true, c.loop-low.invariant.within)) c.index-column.ensures c.standing-standing.ensures.standing
    (ap rank_of c.new-rule.ensures.preference) c.lead_order.ensures c.in-Equal.is in
    ap (λ v. slice_get v.list middle) (sym c.self.view_is) ∙ place_here (rank_of c.self.inside.preference) c.self.inside.columns.items middle c.args.p.now r

pub loop-low-preserved : goal.loop-low-preserved
loop-low-preserved c =
    let middle : ℕ = c.loop-low.low + (c.loop-low.high - c.loop-low.low) / 2 in
    let p = c.loop-low.invariant.place in
    let r : Compares (rank_of c.self.inside.preference) c.self.inside.columns.items middle c.args.p.now Greater =
    compares (rank_of c.self.inside.preference)
    (rank_of c.new-rule.result.preference) c.self.inside.weight c.self.inside.depth c.self.inside.columns.items middle c.index-column.result.now c.args.p.now c.standing-standing.result Greater c.lead_order.result
    c.self.invariant.columns (omega (arith, c.loop-low-test.true, c.loop-low.invariant.within)) c.index-column.ensures c.standing-standing.ensures.standing
    (ap rank_of c.new-rule.ensures.preference) c.lead_order.ensures c.in-Greater.is in
    let before : p.0 < middle = place_before (rank_of c.self.inside.preference) c.self.inside.columns.items p.0 middle c.args.p.now r p.3 in
    record {
      within = omega (arith, c.loop-low-test.true, c.loop-low.invariant.within);
      place = (p.0, p.1, before, p.3);
    }
