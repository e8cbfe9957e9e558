use Rattle.std.proofs.Common.{◌≡◌, ◌-◌, ◌<◌, [], ◌∷◌, length, set, get_or, sym, ◌∙◌, ap, subst, arith}
use Rattle.std.proofs.lemmas.List.{get_or_default, length-set}
use Rattle.echelon.specs.Inner.{AllStand, AreWithin}
use Rattle.sparse_rows.specs.Entries.{IsBelow, AllIn}
use Rattle.echelon.specs.Lists.{FitsColumns}
use Rattle.echelon.proofs.Putting.{within_put, lead_within, stand_put}
use Rattle.echelon.proofs.standing.standing_rows.Goals as goal
use Rattle.echelon.proofs.standing.standing_rows.Goals.{in-Some+in_ok-left, in_default}

pub loop-count-init : goal.loop-count-init
loop-count-init g c = record {
  count = c.in_ok-standing.ensures.count;
  within = c.in_ok-standing.ensures.within;
  stand = c.in_ok-standing.ensures.stand c.args.rows.now;
}

pub standing_row-requires-clause-below : goal.standing_row-requires-clause-below
standing_row-requires-clause-below g c =
    let place = length c.args.rows.now - 1 - c.loop-count.count in
    let inside : place < length c.args.rows.now = omega (arith, c.loop-count-test.true) in
    let is : c.in-Some.first.now ∷ c.in-Some.behind.now ≡ get_or c.args.rows.now place [] =
    sym c.in-Some.ensures.cases.0 ∙ c.entries-row.ensures.entries ∙ c.index-rows-rows.is
    ∙ get_or_default c.args.rows.now place c.index-rows-rows.result [] inside in
    let fits : FitsColumns (g.R.Ring.has c.args.ring.now) g.R.Ring.zero c.args.columns (c.in-Some.first.now ∷ c.in-Some.behind.now) =
    subst (FitsColumns (g.R.Ring.has c.args.ring.now) g.R.Ring.zero c.args.columns) (sym is) (c.requires.fit place inside) in
    subst (λ n. IsBelow (λ k. k) n c.in-Some.behind.now) (sym (ap length c.deref.ensures.value ∙ c.loop-count.invariant.count)) fits.below.1

pub standing_row-requires-clause-in_ring : goal.standing_row-requires-clause-in_ring
standing_row-requires-clause-in_ring g c =
    let place = length c.args.rows.now - 1 - c.loop-count.count in
    let inside : place < length c.args.rows.now = omega (arith, c.loop-count-test.true) in
    let is : c.in-Some.first.now ∷ c.in-Some.behind.now ≡ get_or c.args.rows.now place [] =
    sym c.in-Some.ensures.cases.0 ∙ c.entries-row.ensures.entries ∙ c.index-rows-rows.is
    ∙ get_or_default c.args.rows.now place c.index-rows-rows.result [] inside in
    (subst (AllIn (g.R.Ring.has c.args.ring.now)) (sym is) (c.requires.fit place inside).in_ring).1

pub index_mut-requires : goal.index_mut-requires
index_mut-requires g c =
    let place = length c.args.rows.now - 1 - c.loop-count.count in
    let inside : place < length c.args.rows.now = omega (arith, c.loop-count-test.true) in
    let is : c.in-Some.first.now ∷ c.in-Some.behind.now ≡ get_or c.args.rows.now place [] =
    sym c.in-Some.ensures.cases.0 ∙ c.entries-row.ensures.entries ∙ c.index-rows-rows.is
    ∙ get_or_default c.args.rows.now place c.index-rows-rows.result [] inside in
    let within : c.in-Some.first.now.0 < c.args.columns =
    lead_within 0 (g.R.Ring.has c.args.ring.now)
    (g.R.Ring.value c.args.ring.now) g.R.Ring.zero c.args.columns c.args.rows.now c.loop-count.standing.items place c.in-Some.first.now
    c.in-Some.behind.now [] inside is (c.requires.fit place inside) in
    omega (arith, within, c.from.ensures, c.loop-count.invariant.count)

pub loop-count-preserved : goal.loop-count-preserved
loop-count-preserved g c =
    let ring = c.args.ring.now in
    let m = g.R.Ring.modulus ring in
    let value = g.R.Ring.value ring in
    let rows = c.args.rows.now in
    let standing = c.loop-count.standing.items in
    let place = length rows - 1 - c.loop-count.count in
    let inside : place < length rows = omega (arith, c.loop-count-test.true) in
    elim c.match-split_first.branch [
      | in-Some+in_ok-left w ↦
          let is : w.in-Some.first.now ∷ w.in-Some.behind.now ≡ get_or rows place [] =
          sym w.in-Some.ensures.cases.0 ∙ c.entries-row.ensures.entries ∙ c.index-rows-rows.is
          ∙ get_or_default rows place c.index-rows-rows.result [] inside in
          let stand : AllStand m value rows (set standing w.from.result w.in_ok-left.left) =
          subst (λ k. AllStand m value rows (set standing k w.in_ok-left.left)) (sym w.from.ensures)
          (stand_put m (g.R.Ring.has ring) value g.R.Ring.zero c.args.columns rows standing place w.in-Some.first.now w.in-Some.behind.now w.in_ok-left.left
          inside is (c.requires.fit place inside) (c.requires.one place inside) c.loop-count.invariant.stand
          (w.in_ok-left.ensures.rest rows (subst (AllStand m value rows) (sym w.deref.ensures.value) c.loop-count.invariant.stand))) in
          let within : AreWithin (g.R.Ring.has ring) (set standing w.from.result w.in_ok-left.left) =
          within_put (g.R.Ring.has ring) standing w.from.result w.in_ok-left.left c.loop-count.invariant.within
          (subst (λ n. IsBelow (λ k. k) n w.in_ok-left.left) (ap length w.deref.ensures.value) w.in_ok-left.ensures.below) w.in_ok-left.ensures.in_ring in
          record {
            count = ap (λ v. length v.items) w.standing-is ∙ length-set standing w.from.result w.in_ok-left.left ∙ c.loop-count.invariant.count;
            within = subst (λ v. AreWithin (g.R.Ring.has ring) v.items) (sym w.standing-is) within;
            stand = subst (λ v. AllStand m value rows v.items) (sym w.standing-is) stand;
          }
      | in_default w ↦ record {
        count = ap (λ v. length v.items) w.standing-is ∙ c.loop-count.invariant.count;
        within = subst (λ v. AreWithin (g.R.Ring.has ring) v.items) (sym w.standing-is) c.loop-count.invariant.within;
        stand = subst (λ v. AllStand m value rows v.items) (sym w.standing-is) c.loop-count.invariant.stand;
      }
    ]
