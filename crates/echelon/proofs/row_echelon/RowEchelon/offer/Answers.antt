use Rattle.std.proofs.Common.{◌≡◌, ◌+◌, ◌%◌, ◌<◌, [], ◌∷◌, ◌++◌, sym, ◌∙◌, ap, subst, arith, rules, mod-eq_of_lt}
use Rattle.zeta_model.proofs.ModularLemmas.{same-mod}
use Rattle.echelon.specs.Lists.{entries_of}
use Rattle.echelon.specs.Offers.{TakesIn, used_at}
use Rattle.echelon.specs.Inner.{IsFoundRow}
use Rattle.echelon.proofs.ForwardRows.{not_in_span, zero_has_inverse, unit_has_inverse, takes_in_none, takes_in_forward, forward_row_one}
use Rattle.echelon.proofs.ForwardRows.{forward_row_clear, forward_row_with}
use Rattle.echelon.proofs.row_echelon.RowEchelon.offer.Goals as goal

pub returns-in_default-clause-span : goal.returns-in_default-clause-span
returns-in_default-clause-span g c =
    let s = c.args.self.now in
    let m = g.R.Ring.modulus s.ring in
    let value = g.R.Ring.value s.ring in
    let p = entries_of value c.args.row.now in
    subst (λ t. TakesIn m value s.rows p t.rows) (sym c.skip-in_default.ensures.skipped)
    (subst (λ t. TakesIn m value s.rows p t.rows) (sym c.renew.ensures.same)
    (takes_in_none m value s.rows p (omega (arith, g.met.R.Ring.modulus_from s.ring)) c.found.ensures.elimination.forward
    (rw c.in_default.is at c.in_ok-found.ensures.zero)))

pub returns-then-is_known-clause-span : goal.returns-then-is_known-clause-span
returns-then-is_known-clause-span g c =
    let s = c.args.self.now in
    let m = g.R.Ring.modulus s.ring in
    let value = g.R.Ring.value s.ring in
    let p = entries_of value c.args.row.now in
    subst (λ t. TakesIn m value s.rows p t.rows) (sym c.skip.ensures.skipped)
    (takes_in_none m value s.rows p (omega (arith, g.met.R.Ring.modulus_from s.ring)) c.is_known.ensures.elimination.forward
    (c.is_known.ensures.known c.if-is_known.true))

pub returns-then-is_known-clause-fits : goal.returns-then-is_known-clause-fits
returns-then-is_known-clause-fits g c =
    let s = c.args.self.now in
    λ lead.
    zero_has_inverse (g.R.Ring.modulus s.ring) (g.R.Ring.value s.ring) s.rows (entries_of (g.R.Ring.value s.ring) c.args.row.now)
    (omega (arith, g.met.R.Ring.modulus_from s.ring)) c.is_known.ensures.elimination.forward
    lead (c.is_known.ensures.known c.if-is_known.true)

pub returns-in_default-clause-fits : goal.returns-in_default-clause-fits
returns-in_default-clause-fits g c =
    let s = c.args.self.now in
    λ lead.
    zero_has_inverse (g.R.Ring.modulus s.ring) (g.R.Ring.value s.ring) s.rows (entries_of (g.R.Ring.value s.ring) c.args.row.now)
    (omega (arith, g.met.R.Ring.modulus_from s.ring)) c.found.ensures.elimination.forward
    lead (rw c.in_default.is at c.in_ok-found.ensures.zero)

pub keep-requires-clause-one : goal.keep-requires-clause-one
keep-requires-clause-one g c =
    let s = c.args.self.now in
    let found : IsFoundRow (g.R.Ring.modulus s.ring) (g.R.Ring.has s.ring) (g.R.Ring.value s.ring) g.R.Ring.zero s.columns s.rows
    (entries_of (g.R.Ring.value s.ring) c.args.row.now) c.in-Some.found.row c.in-Some.found.scale c.in-Some.found.factors.items =
    rw c.in-Some.is at c.in_ok-found.ensures.found in
    forward_row_one (g.R.Ring.modulus s.ring) (g.R.Ring.value s.ring) s.rows (entries_of (g.R.Ring.value s.ring) c.args.row.now)
    (omega (arith, g.met.R.Ring.modulus_from s.ring)) c.found.ensures.elimination.forward
    c.in-Some.found.row _ _ found.made

pub keep-requires-clause-clear : goal.keep-requires-clause-clear
keep-requires-clause-clear g c =
    let s = c.args.self.now in
    let found : IsFoundRow (g.R.Ring.modulus s.ring) (g.R.Ring.has s.ring) (g.R.Ring.value s.ring) g.R.Ring.zero s.columns s.rows
    (entries_of (g.R.Ring.value s.ring) c.args.row.now) c.in-Some.found.row c.in-Some.found.scale c.in-Some.found.factors.items =
    rw c.in-Some.is at c.in_ok-found.ensures.found in
    forward_row_clear (g.R.Ring.modulus s.ring) (g.R.Ring.value s.ring) s.rows (entries_of (g.R.Ring.value s.ring) c.args.row.now)
    (omega (arith, g.met.R.Ring.modulus_from s.ring)) c.found.ensures.elimination.forward
    c.in-Some.found.row _ _ found.made

pub returns-clause-accepted : goal.returns-clause-accepted
returns-clause-accepted g c =
    let s = c.args.self.now in
    let m = g.R.Ring.modulus s.ring in
    let value = g.R.Ring.value s.ring in
    let pos : 0 < m = omega (arith, g.met.R.Ring.modulus_from s.ring) in
    let forward = c.found.ensures.elimination.forward in
    let p = entries_of value c.args.row.now in
    let found : IsFoundRow m (g.R.Ring.has s.ring) value g.R.Ring.zero s.columns s.rows p c.in-Some.found.row c.in-Some.found.scale
    c.in-Some.found.factors.items = rw c.in-Some.is at c.in_ok-found.ensures.found in (
      not_in_span m value s.rows p pos forward found.made.remainder _ found.made.is_remainder found.made.leads,
      record {
        fits = found.fits;
        forward_row = forward_row_with m value s.rows p pos forward c.in-Some.found.row (value c.in-Some.found.scale) _
            (used_at value s.numbers c.in-Ok.uses) found.made
            (λ i l. sym (ap (λ x. x % m) (c.in-Ok.ensures.at i (omega (arith, c.found.ensures.elimination.count))) ∙ same-mod m _));
        named = c.in-Ok.ensures.named;
        scale_in_ring = found.scale_in_ring;
        uses_in_ring = c.in-Ok.ensures.in_ring;
      },
      search rules,
    )

pub returns-clause-span : goal.returns-clause-span
returns-clause-span g c =
    let s = c.args.self.now in
    let m = g.R.Ring.modulus s.ring in
    let value = g.R.Ring.value s.ring in
    let pos : 0 < m = omega (arith, g.met.R.Ring.modulus_from s.ring) in
    let p = entries_of value c.args.row.now in
    let found : IsFoundRow m (g.R.Ring.has s.ring) value g.R.Ring.zero s.columns s.rows p c.in-Some.found.row c.in-Some.found.scale
    c.in-Some.found.factors.items = rw c.in-Some.is at c.in_ok-found.ensures.found in
    let kept : c.keep.new.self ≡ record s { above = c.args.n + 1; numbers = s.numbers ++ c.args.n ∷ []; rows = s.rows ++ c.in-Some.found.row ∷ [] } =
    search rules in
    subst (λ t. TakesIn m value s.rows p t.rows) (sym kept)
    (takes_in_forward m value s.rows p pos c.found.ensures.elimination.forward c.in-Some.found.row _ _ found.made)

pub returns-clause-fits : goal.returns-clause-fits
returns-clause-fits g c =
    let s = c.args.self.now in
    let m = g.R.Ring.modulus s.ring in
    let value = g.R.Ring.value s.ring in
    let pos : 0 < m = omega (arith, g.met.R.Ring.modulus_from s.ring) in
    let p = entries_of value c.args.row.now in
    let found : IsFoundRow m (g.R.Ring.has s.ring) value g.R.Ring.zero s.columns s.rows p c.in-Some.found.row c.in-Some.found.scale
    c.in-Some.found.factors.items = rw c.in-Some.is at c.in_ok-found.ensures.found in
    λ lead.
    unit_has_inverse m value s.rows p pos c.found.ensures.elimination.forward found.made.remainder _ _ lead found.made.is_remainder found.made.leads
    found.made.inverse (mod-eq_of_lt (omega (arith, g.met.R.Ring.modulus_from s.ring)))
