use Rattle.std.proofs.Common.{◌≡◌, ◌*◌, ◌%◌, true, sym, ◌∙◌, ap, subst, rules}
use Rattle.echelon.specs.Offers.{HasNoInverse}
use Rattle.echelon.specs.Lists.{entries_of}
use Rattle.echelon.proofs.FoundRows.{found_none, lead_in, found_broken, found_forward}
use Rattle.echelon.proofs.offering.found_row.Goals as goal

pub returns-in_default-clause-zero : goal.returns-in_default-clause-zero
returns-in_default-clause-zero g c =
    let ring = c.args.ring.now in
    found_none (g.R.Ring.modulus ring) (g.R.Ring.has ring) (g.R.Ring.value ring) g.R.Ring.zero (g.met.R.Ring.has_zero ring) (g.met.R.Ring.value_zero ring)
    (g.met.R.Ring.value_injective ring) (g.met.R.Ring.value_below ring) (g.met.R.Ring.modulus_from ring)
    c.args.columns c.args.rows.now (entries_of
    (g.R.Ring.value ring) c.args.row.now) c.in-Ok.swept.row c.in-Ok.swept.factors.items c.requires.forward c.in-Ok.ensures (search rules)

pub inverse-requires : goal.inverse-requires
inverse-requires g c =
    let ring = c.args.ring.now in
    lead_in (g.R.Ring.modulus ring) (g.R.Ring.has ring) (g.R.Ring.value ring) g.R.Ring.zero (g.met.R.Ring.has_zero ring) (g.met.R.Ring.value_zero ring)
    (g.met.R.Ring.value_injective ring) (g.met.R.Ring.value_below ring) (g.met.R.Ring.modulus_from ring)
    c.args.columns c.args.rows.now (entries_of
    (g.R.Ring.value ring) c.args.row.now) c.in-Ok.swept.row c.in-Ok.swept.factors.items c.requires.forward c.in-Ok.ensures c.in-Some.lead
    c.in-Some.ensures.first

pub value-requires : goal.value-requires
value-requires g c =
    let ring = c.args.ring.now in
    lead_in (g.R.Ring.modulus ring) (g.R.Ring.has ring) (g.R.Ring.value ring) g.R.Ring.zero (g.met.R.Ring.has_zero ring) (g.met.R.Ring.value_zero ring)
    (g.met.R.Ring.value_injective ring) (g.met.R.Ring.value_below ring) (g.met.R.Ring.modulus_from ring)
    c.args.columns c.args.rows.now (entries_of
    (g.R.Ring.value ring) c.args.row.now) c.in-Ok.swept.row c.in-Ok.swept.factors.items c.requires.forward c.in-Ok.ensures c.in-Some.lead
    c.in-Some.ensures.first

pub returns-in_default-inverse-clause-no_inverse : goal.returns-in_default-inverse-clause-no_inverse
returns-in_default-inverse-clause-no_inverse g c =
    let ring = c.args.ring.now in
    let broken : HasNoInverse (g.R.Ring.modulus ring) (g.R.Ring.value ring) c.args.rows.now (entries_of (g.R.Ring.value ring) c.args.row.now)
    (g.R.Ring.value ring c.in-Some.lead.1) =
    found_broken (g.R.Ring.modulus ring) (g.R.Ring.has ring) (g.R.Ring.value ring) g.R.Ring.zero (g.met.R.Ring.has_zero ring) (g.met.R.Ring.value_zero ring)
    (g.met.R.Ring.value_injective ring) (g.met.R.Ring.value_below ring) (g.met.R.Ring.modulus_from ring)
    c.args.columns c.args.rows.now (entries_of
    (g.R.Ring.value ring) c.args.row.now) c.in-Ok.swept.row c.in-Ok.swept.factors.items c.requires.forward c.in-Ok.ensures c.in-Some.lead
    c.in-Some.ensures.first
    c.in_default-inverse.ensures.none in
    λ lead k h. (
      cc,
      subst (HasNoInverse (g.R.Ring.modulus ring) (g.R.Ring.value ring) c.args.rows.now (entries_of (g.R.Ring.value ring) c.args.row.now))
          (let e : g.R.Ring.value ring c.in-Some.lead.1 ≡ lead = cc in e) broken,
    )

pub returns-clause-found : goal.returns-clause-found
returns-clause-found g c =
    let ring = c.args.ring.now in
    let m = g.R.Ring.modulus ring in
    let value = g.R.Ring.value ring in
    let lead = c.in-Some.lead.1 in
    let scale = c.in-Some-inverse.scale in
    let lead_has : g.R.Ring.has ring lead ≡ true =
    lead_in m (g.R.Ring.has ring) value g.R.Ring.zero (g.met.R.Ring.has_zero ring) (g.met.R.Ring.value_zero ring) (g.met.R.Ring.value_injective ring)
    (g.met.R.Ring.value_below ring) (g.met.R.Ring.modulus_from ring)
    c.args.columns c.args.rows.now (entries_of value c.args.row.now) c.in-Ok.swept.row c.in-Ok.swept.factors.items c.requires.forward c.in-Ok.ensures
    c.in-Some.lead c.in-Some.ensures.first in
    let unit : value lead * value scale % m ≡ 1 =
    sym (g.met.R.Ring.value_mul ring lead scale lead_has c.in-Some-inverse.ensures.inverse.0) ∙ ap value c.in-Some-inverse.ensures.inverse.1
    ∙ g.met.R.Ring.value_one ring in
    found_forward m (g.R.Ring.has ring) value g.R.Ring.zero (g.met.R.Ring.has_zero ring) (g.met.R.Ring.value_zero ring) (g.met.R.Ring.value_injective ring)
    (g.met.R.Ring.value_below ring) (g.met.R.Ring.modulus_from ring)
    c.args.columns c.args.rows.now (entries_of value c.args.row.now) c.in-Ok.swept.row c.in-Ok.swept.factors.items c.requires.forward c.in-Ok.ensures
    c.in-Some.lead c.in-Some.ensures.first
    c.scale.new.self scale c.in-Some-inverse.ensures.inverse.0 unit c.scale.ensures.row c.scale.ensures.in_ring c.scale.ensures.entries
