use Rattle.std.proofs.Common.{◌+◌, ◌≤◌, ℕ, Err, length, get_or, sym, ◌∙◌, ap, subst, arith}
use Rattle.sparse_rows.specs.Entries.{IsBelow, AllIn, IsRow}
use Rattle.echelon.specs.Lists.{entries_of}
use Rattle.echelon.specs.States.{IsElimination}
use Rattle.echelon.specs.Offers.{HasNoInverse, TakesIn}
use Rattle.share_build.proofs.OfferSteps.{ZeroTold, AcceptedTold, ValueTold}
use Rattle.share_merge.specs.Turns.{turns_of, share_count, BreaksAtRow}
use Rattle.share_merge.proofs.RowPlaces.{places_count, turn_at, share_inside, share_is, row_inside}
use Rattle.share_merge.proofs.TurnRows.{turn_over, read_row, read_ring}
use Rattle.share_merge.proofs.EntryBounds.{below_where_vanishing}
use Rattle.share_merge.proofs.OfferedRows.{offer_breaks, offered_next}
use Rattle.share_merge.proofs.offering.offer_row.Goals as goal
use Rattle.share_merge.proofs.offering.offer_row.Goals.{in-Ok, in-Err-NoInverse, in-Err-Memory}
use Rattle.std.specs.Prelude.{OnOk, IfErr}
use Rattle.table_model.specs.Conversion.{IsOver}
use Rattle.share_model.specs.Checked.{Checked}
use Rattle.share_merge.specs.Inner.{HasOffered, HasCause}
use Rattle.share_merge.specs.declared.places.RowPlace.{RowPlace}

pub offset_bounds-shares-place : goal.offset_bounds-shares-place
offset_bounds-shares-place g c =
    let list = c.args.shares.now in
    let at = turn_at g.R.Ring.modulus g.R.Ring.has g.R.Ring.value list (turns_of list) c.args.places.now c.requires.places c.args.t
    (record { share = 0; row = 0 }) c.requires.inside in
    omega (arith, share_inside g.R.Ring.modulus g.R.Ring.has g.R.Ring.value list c.args.t _ at)

pub bounds-shares-place : goal.bounds-shares-place
bounds-shares-place g c =
    let list = c.args.shares.now in
    let at = turn_at g.R.Ring.modulus g.R.Ring.has g.R.Ring.value list (turns_of list) c.args.places.now c.requires.places c.args.t
    (record { share = 0; row = 0 }) c.requires.inside in
    share_inside g.R.Ring.modulus g.R.Ring.has g.R.Ring.value list c.args.t _ at

pub row-requires : goal.row-requires
row-requires g c =
    let list = c.args.shares.now in
    let at = turn_at g.R.Ring.modulus g.R.Ring.has g.R.Ring.value list (turns_of list) c.args.places.now c.requires.places c.args.t
    (record { share = 0; row = 0 }) c.requires.inside in
    omega (
      arith,
      row_inside g.R.Ring.modulus g.R.Ring.has g.R.Ring.value list c.args.t _ at c.index-shares-place.result c.index-shares-place.is,
      ap (λ l. length l.rows) c.rows.ensures.rows,
    )

pub offer-requires-clause-below : goal.offer-requires-clause-below
offer-requires-clause-below g c =
    let modulus = g.R.Ring.modulus in
    let has = g.R.Ring.has in
    let value = g.R.Ring.value in
    let zero = g.R.Ring.zero in
    let t = c.args.table.now in
    let list = c.args.shares.now in
    let x = c.index-shares-place.result in
    let is = c.index-shares-place.is in
    let first : RowPlace = record { share = 0; row = 0 } in
    let p = get_or c.args.places.now c.args.t first in
    let at = turn_at modulus has value list (turns_of list) c.args.places.now c.requires.places c.args.t first c.requires.inside in
    let inside = row_inside modulus has value list c.args.t p at x is in
    let rows = c.rows.result.now in
    let row = c.row.result.now in
    let read = read_row modulus has value t (share_count list) list c.args.places.now c.requires.shares c.requires.places c.args.t c.requires.inside x is rows
    c.rows.ensures.rows row c.row.ensures.row in
    let ring = read_ring modulus has value t (share_count list) list c.args.places.now c.requires.shares c.requires.places c.args.t c.requires.inside x is rows
    c.rows.ensures.rows in
    let own = c.row.ensures.list in
    let fit = own.fit p.row (omega (arith, inside, ap (λ l. length l.rows) c.rows.ensures.rows)) in
    let big : 3 ≤ modulus t.ring = g.met.R.Ring.modulus_from t.ring in
    subst (λ n. IsBelow (λ k. k) n row) (sym c.requires.so_far.columns)
    (below_where_vanishing (has t.ring) (value t.ring) zero (g.met.R.Ring.has_zero t.ring) (g.met.R.Ring.value_zero t.ring)
    (g.met.R.Ring.value_injective t.ring) (modulus t.ring) (length t.columns.list) row (omega (arith, big)) (g.met.R.Ring.value_below t.ring)
    (subst (IsRow (λ k. k) zero 0) (sym c.row.ensures.row) fit.is_row)
    (subst (λ r. AllIn (has r) row) ring (subst (AllIn (has rows.ring)) (sym c.row.ensures.row) fit.in_ring))
    (subst (λ es. IsOver (modulus t.ring) t.columns (entries_of (value t.ring) es)) (sym read)
    (turn_over modulus has value t (share_count list) list c.args.places.now c.requires.shares c.requires.places c.args.t c.requires.inside)))

pub offer-requires-clause-in_ring : goal.offer-requires-clause-in_ring
offer-requires-clause-in_ring g c =
    let modulus = g.R.Ring.modulus in
    let has = g.R.Ring.has in
    let value = g.R.Ring.value in
    let t = c.args.table.now in
    let list = c.args.shares.now in
    let x = c.index-shares-place.result in
    let is = c.index-shares-place.is in
    let first : RowPlace = record { share = 0; row = 0 } in
    let p = get_or c.args.places.now c.args.t first in
    let at = turn_at modulus has value list (turns_of list) c.args.places.now c.requires.places c.args.t first c.requires.inside in
    let inside = row_inside modulus has value list c.args.t p at x is in
    let rows = c.rows.result.now in
    let row = c.row.result.now in
    let ring = read_ring modulus has value t (share_count list) list c.args.places.now c.requires.shares c.requires.places c.args.t c.requires.inside x is rows
    c.rows.ensures.rows in
    let own = c.row.ensures.list in
    let fit = own.fit p.row (omega (arith, inside, ap (λ l. length l.rows) c.rows.ensures.rows)) in
    subst (λ r. AllIn (has r) row) (ring ∙ sym c.requires.so_far.ring) (subst (AllIn (has rows.ring)) (sym c.row.ensures.row) fit.in_ring)

pub returns-clause-ok : goal.returns-clause-ok
returns-clause-ok g c =
    let modulus = g.R.Ring.modulus in
    let has = g.R.Ring.has in
    let value = g.R.Ring.value in
    let zero = g.R.Ring.zero in
    let t = c.args.table.now in
    let list = c.args.shares.now in
    let places = c.args.places.now in
    let n = c.args.t in
    let old = c.args.echelon.now in
    let new = c.offer.new.self in
    let so_far = c.requires.so_far in
    let p = c.row.result.now in
    let count = places_count modulus has value list (turns_of list) places c.requires.places in
    let read = read_row modulus has value t (share_count list) list places c.requires.shares c.requires.places n c.requires.inside
    c.index-shares-place.result c.index-shares-place.is c.rows.result.now c.rows.ensures.rows p c.row.ensures.row in
    let over = turn_over modulus has value t (share_count list) list places c.requires.shares c.requires.places n c.requires.inside in
    let Next : Type 0 = HasOffered (modulus t.ring) (has t.ring) (value t.ring) zero t list (n + 1) new in
    elim c.match-offer.branch [
      | in-Ok w ↦
          let told = w.in-Ok.ensures in
          let answer = w.in-Ok.field-0 in
          subst (λ r. OnOk r Next) (sym w.result-is)
          (offered_next (modulus t.ring) (has t.ring) (value t.ring) zero t list n old so_far p read over _ new (omega (arith, c.requires.inside, count))
          (subst (λ r. (lead : ℕ) → ¬ (HasNoInverse (modulus r) (value r) old.core.rows (entries_of (value r) p) lead)) so_far.ring told.fits)
          (subst (λ r. TakesIn (modulus r) (value r) old.core.rows (entries_of (value r) p) new.core.rows) so_far.ring told.span)
          (subst (λ r. IsElimination (modulus r) (has r) (value r) zero old.core.columns new.core.above new.core.numbers new.core.rows) so_far.ring
          c.offer.ensures.elimination)
          answer (subst (λ r. ZeroTold (modulus r) (has r) (value r) zero n old p _ new answer) so_far.ring told.zero)
          (subst (λ r. AcceptedTold (modulus r) (has r) (value r) zero n old p _ new answer) so_far.ring told.accepted)
          (subst (λ r. ValueTold (modulus r) (has r) (value r) zero n old p _ answer) so_far.ring told.value))
      | in-Err-NoInverse w ↦ subst (λ r. OnOk r Next) (sym w.result-is) tt
      | in-Err-Memory w ↦ subst (λ r. OnOk r Next) (sym w.result-is) tt
    ]

pub returns-clause-fault : goal.returns-clause-fault
returns-clause-fault g c =
    let modulus = g.R.Ring.modulus in
    let has = g.R.Ring.has in
    let value = g.R.Ring.value in
    let t = c.args.table.now in
    let list = c.args.shares.now in
    let places = c.args.places.now in
    let n = c.args.t in
    let x = c.index-shares-place.result in
    let is = c.index-shares-place.is in
    let old = c.args.echelon.now in
    let so_far = c.requires.so_far in
    let p = c.row.result.now in
    let first : RowPlace = record { share = 0; row = 0 } in
    let at = turn_at modulus has value list (turns_of list) places c.requires.places n first c.requires.inside in
    let own = share_is modulus has value list n (get_or places n first) at x is in
    let stands = at.is in
    let read = read_row modulus has value t (share_count list) list places c.requires.shares c.requires.places n c.requires.inside
    x is c.rows.result.now c.rows.ensures.rows p c.row.ensures.row in
    let over = turn_over modulus has value t (share_count list) list places c.requires.shares c.requires.places n c.requires.inside in
    let Breaks : ℕ → ℕ → ℕ → Type 0 = BreaksAtRow (modulus t.ring) (value t.ring) t.columns list in
    elim c.match-offer.branch [
      | in-Ok w ↦ subst (λ r. IfErr r (HasCause Breaks)) (sym w.result-is) tt
      | in-Err-NoInverse w ↦
          let fault = w.in-Err-NoInverse in
          let told = fault.ensures.no_inverse fault.value fault.field-0-1 (ap Err fault.field-0-is) in
          let found : HasNoInverse (modulus t.ring) (value t.ring) old.core.rows (entries_of (value t.ring) p) fault.value =
          subst (λ r. HasNoInverse (modulus r) (value r) old.core.rows (entries_of (value r) p) fault.value) so_far.ring told.1 in
          subst (λ r. IfErr r (HasCause Breaks)) (sym w.result-is) (record {
            place = n;
            turn = at.turn;
            is_turn = at.at;
            of_share = sym (ap (λ (c : Checked g.row.R.Denot g.row.R-Elem.Denot). c.id.index) own) ∙ sym (ap (λ id. id.index) c.id-index.ensures);
            of_row = stands.row;
            breaks = offer_breaks (modulus t.ring) (has t.ring) (value t.ring) g.R.Ring.zero t list n old so_far p read over fault.value found;
          })
      | in-Err-Memory w ↦ subst (λ r. IfErr r (HasCause Breaks)) (sym w.result-is) tt
    ]
