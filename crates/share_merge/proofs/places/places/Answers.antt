use Rattle.std.proofs.Common.{◌≡◌, ◌+◌, ◌++◌, ◌∙◌, ap, subst, sym, take, length, true, false, All}
use Rattle.std.proofs.lemmas.List.{take_all}
use Rattle.share_merge.specs.Turns.{HasIndex, turns_of, counted}
use Rattle.share_merge.specs.Inner.{places_of, ArePlaces, IsOwn}
use Rattle.share_merge.proofs.RowPlaces.{HasPlaces, places_new, places_again}
use Rattle.share_merge.proofs.places.places.Goals as goal
use Rattle.share_merge.proofs.places.places.Goals.{then-not-has_index+in_ok-add_rows, else-not-has_index}

pub loop-place-preserved : goal.loop-place-preserved
loop-place-preserved g c =
    let modulus = g.R.Ring.modulus in
    let has = g.R.Ring.has in
    let value = g.R.Ring.value in
    let list = c.args.shares.now in
    let k = c.loop-place.place in
    let x = c.index-shares-place.result in
    let ps = c.loop-place.places.items in
    let index = ap (λ id. id.index) c.id.ensures in
    elim c.if-not-has_index.branch [
      | then-not-has_index+in_ok-add_rows w ↦
          subst (HasPlaces modulus has value list (k + 1)) (sym (ap (λ v. v.items) w.places-is ∙ w.in_ok-add_rows.ensures
          ∙ ap (λ n. ps ++ places_of k n) (w.len.ensures ∙ ap (λ l. length l.rows) w.rows.ensures.rows)))
          (places_new modulus has value list k x ps c.loop-place-test.true c.index-shares-place.is c.loop-place.invariant
          (λ h. let z : true ≡ false = sym (c.has_index.ensures.1 (subst (HasIndex (take k list)) (sym index) h)) ∙ w.if-not-has_index.true in cc)
          w.rows.ensures.checked)
      | else-not-has_index w ↦
          subst (HasPlaces modulus has value list (k + 1)) (sym (ap (λ v. v.items) w.places-is))
          (places_again modulus has value list k x ps c.loop-place-test.true c.index-shares-place.is c.loop-place.invariant
          (subst (HasIndex (take k list)) index (c.has_index.ensures.0 w.if-not-has_index.false)))
    ]

pub returns-clause-places : goal.returns-clause-places
returns-clause-places g c =
    subst (λ xs. ArePlaces g.R.Ring.modulus g.R.Ring.has g.R.Ring.value c.args.shares.now (turns_of xs) c.loop-place.places.items)
    (take_all c.loop-place.place c.args.shares.now c.loop-place-test.false) c.loop-place.invariant.places

pub returns-clause-checked : goal.returns-clause-checked
returns-clause-checked g c =
    subst (λ xs. All (IsOwn g.R.Ring.modulus g.R.Ring.has g.R.Ring.value) (counted xs))
    (take_all c.loop-place.place c.args.shares.now c.loop-place-test.false) c.loop-place.invariant.checked
