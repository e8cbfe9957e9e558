use Rattle.std.proofs.Common.{◌≤◌, ◌<◌, ℕ, length, sym, subst, arith}
use Rattle.zeta_model.specs.Modular.{Same}
use Rattle.echelon.specs.Lists.{row_at}
use Rattle.echelon.specs.States.{IsRowList}
use Rattle.echelon.specs.Finishes.{SameSpanOf, AreRecorded}
use Rattle.share_merge.specs.Turns.{share_count}
use Rattle.share_merge.specs.Inner.{AreExpanded}
use Rattle.share_merge.proofs.TurnCounts.{share_count_some}
use Rattle.share_merge.proofs.MergedShares.{sums, merged}
use Rattle.share_merge.proofs.finishing.finished.Goals as goal

pub all_expanded-requires-clause-ends : goal.all_expanded-requires-clause-ends
all_expanded-requires-clause-ends g c =
    let modulus = g.R.Ring.modulus in
    let has = g.R.Ring.has in
    let value = g.R.Ring.value in
    let zero = g.R.Ring.zero in
    let t = c.args.table.now in
    let list = c.args.shares.now in
    let places = c.args.places.now in
    let e = c.args.echelon.now in
    let h = c.requires.offered in
    let told = c.in_ok-rows.ensures in
    let rows = c.in_ok-rows.field-0.rows.rows in
    let made = c.in_ok-rows.field-0.combinations.items in
    let recorded = subst (λ r. AreRecorded (modulus r) (has r) (value r) e.core.rows e.combinations rows made) h.ring told.sums in
    subst (λ cs. (i q : ℕ) → i < length cs → length places ≤ q → Same (modulus t.ring) (row_at (value t.ring) cs i q) 0) (sym c.deref.ensures.value)
    (λ i q l past.
    let s = sums modulus has value zero t (share_count list) list c.requires.shares places c.requires.places c.requires.checked e h rows made
    (subst (λ r. IsRowList (modulus r) (has r) (value r) zero e.core.columns rows) h.ring told.ok)
    (subst (λ r. SameSpanOf (modulus r) (value r) e.core.rows rows) h.ring told.span) recorded i (omega (arith, l, recorded.count)) in
    s.ends q past)

pub returns-clause-merged : goal.returns-clause-merged
returns-clause-merged g c =
    let modulus = g.R.Ring.modulus in
    let has = g.R.Ring.has in
    let value = g.R.Ring.value in
    let zero = g.R.Ring.zero in
    let t = c.args.table.now in
    let list = c.args.shares.now in
    let places = c.args.places.now in
    let e = c.args.echelon.now in
    let h = c.requires.offered in
    let told = c.in_ok-rows.ensures in
    let rows = c.in_ok-rows.field-0.rows.rows in
    let made = c.in_ok-rows.field-0.combinations.items in
    let expanded = c.in_ok-combinations.combinations.items in
    merged modulus has value zero t (share_count list) list c.requires.shares places c.requires.places c.requires.checked e h rows made
    (subst (λ r. IsRowList (modulus r) (has r) (value r) zero e.core.columns rows) h.ring told.ok)
    (subst (λ r. SameSpanOf (modulus r) (value r) e.core.rows rows) h.ring told.span)
    (subst (λ r. AreRecorded (modulus r) (has r) (value r) e.core.rows e.combinations rows made) h.ring told.sums) expanded
    (subst (λ cs. AreExpanded (modulus t.ring) (has t.ring) (value t.ring) zero t.columns list cs expanded) c.deref.ensures.value
    c.in_ok-combinations.ensures) c.requires.all (share_count_some modulus has value list c.requires.some c.requires.checked)
