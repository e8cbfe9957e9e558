use Rattle.std.proofs.Common.{◌≡◌, ℕ, ◌<◌, length, refl, subst, arith, rules}
use Rattle.echelon.specs.States.{IsRowList}
use Rattle.echelon.specs.Inner.{AreFound, IsReducedAt}
use Rattle.echelon.proofs.ReducedPlaces.{list_of_places}
use Rattle.echelon.proofs.LessStanding.{found_few, found_span}
use Rattle.echelon.proofs.reducing.reduced_quickly.Given.{Over}
use Rattle.echelon.proofs.reducing.reduced_quickly.Goals as goal

found : (g : Over) (c : goal.Else-not-is_reduced_list g)
    → AreFound (g.R.Ring.modulus c.args.ring.now) (g.R.Ring.has c.args.ring.now)
    (g.R.Ring.value c.args.ring.now) c.args.columns c.args.rows.now c.args.columns c.in-Some.made.items
found g c = rw c.in-Some.is at c.in_ok-made.ensures.found

pub returns-clause-list : goal.returns-clause-list
returns-clause-list g c =
    let ring = c.args.ring.now in
    let made = c.in-Some.made.items in
    let value = g.R.Ring.value ring in
    let each : (k : ℕ) → k < length made → IsReducedAt value g.R.Ring.zero made k =
    λ k. subst (λ rs. k < length rs
    → IsReducedAt value g.R.Ring.zero rs k) c.deref.ensures.value (c.is_reduced_list.ensures.reduced (search rules) k) in
    list_of_places (g.R.Ring.modulus ring) (g.R.Ring.has ring) value g.R.Ring.zero made (length made) each c.args.columns refl c.requires.few
    (omega (
      arith,
      found_few (g.R.Ring.modulus ring) (g.R.Ring.has ring) value g.R.Ring.zero c.args.columns c.args.rows.now made each
          (found g c).below,
      c.requires.few,
    )) (found g c).below (found g c).in_ring

pub returns-clause-span : goal.returns-clause-span
returns-clause-span g c =
    let ring = c.args.ring.now in
    let list : IsRowList (g.R.Ring.modulus ring) (g.R.Ring.has ring) (g.R.Ring.value ring) g.R.Ring.zero c.args.columns c.in-Some.made.items =
    returns-clause-list g c in
    found_span (g.R.Ring.modulus ring) (g.R.Ring.has ring) (g.R.Ring.value ring) g.R.Ring.zero c.args.columns c.args.rows.now c.in-Some.made.items
    (omega (arith, g.met.R.Ring.modulus_from ring)) c.requires.forward c.requires.fit (found g c) list.reduced
