use Rattle.std.proofs.Common.{◌≡◌, ◌+◌, [], set, get_or, true, sym, ◌∙◌, ap, subst}
use Rattle.std.specs.List.{All}
use Rattle.std.proofs.lemmas.List.{get_or_default}
use Rattle.std.proofs.lemmas.List.Elements.{All-set}
use Rattle.echelon.specs.Lists.{entries_of}
use Rattle.echelon.specs.Inner.{IsSweptRow}
use Rattle.echelon.proofs.FoundRows.{nonzero}
use Rattle.echelon.proofs.UsedRows.{used_row_of}
use Rattle.echelon.proofs.finishing.used_row.Goals as goal

pub named-requires-clause-in_ring : goal.named-requires-clause-in_ring
named-requires-clause-in_ring g c =
    let ring = c.args.ring.now in
    let changed : c.deref.result.now ≡ set c.in_ok-swept.swept.factors.items c.args.i c.one.result = c.deref.ensures.value in
    subst (All (λ a. g.R.Ring.has ring a ≡ true)) (sym changed)
    (All-set (λ a. g.R.Ring.has ring a ≡ true) c.in_ok-swept.swept.factors.items c.args.i c.one.result (ap (g.R.Ring.has ring) c.one.ensures
    ∙ g.met.R.Ring.has_one ring) c.in_ok-swept.ensures.factors_in_ring)

pub returns : goal.returns
returns g c =
    let ring = c.args.ring.now in
    let m = g.R.Ring.modulus ring in
    let value = g.R.Ring.value ring in
    let has = g.R.Ring.has ring in
    let changed : c.deref.result.now ≡ set c.in_ok-swept.swept.factors.items c.args.i c.one.result = c.deref.ensures.value in
    let one : value c.one.result ≡ 1 = ap value c.one.ensures ∙ g.met.R.Ring.value_one ring in
    let row_is : c.index-rows-i.result ≡ get_or c.args.rows.now c.args.i [] =
    c.index-rows-i.is ∙ get_or_default c.args.rows.now c.args.i c.index-rows-i.result [] c.requires.inside in
    let swept : IsSweptRow m has value g.R.Ring.zero c.args.columns c.args.rows.now (c.args.i + 1)
    (entries_of value (get_or c.args.rows.now c.args.i [])) c.in_ok-swept.swept.row c.in_ok-swept.swept.factors.items =
    subst (λ es. IsSweptRow m has value g.R.Ring.zero c.args.columns c.args.rows.now (c.args.i + 1)
    (entries_of value es) c.in_ok-swept.swept.row c.in_ok-swept.swept.factors.items) row_is c.in_ok-swept.ensures in
    used_row_of m has value g.R.Ring.zero
    (nonzero m has value g.R.Ring.zero (g.met.R.Ring.has_zero ring) (g.met.R.Ring.value_zero ring) (g.met.R.Ring.value_injective ring)
    (g.met.R.Ring.value_below ring) (g.met.R.Ring.modulus_from ring))
    (g.met.R.Ring.value_below ring)
    (g.met.R.Ring.modulus_from ring) c.args.columns c.args.numbers.now c.args.rows.now c.requires.forward c.args.i c.in_ok-swept.swept.row
    c.in_ok-uses.uses c.in_ok-swept.swept.factors.items c.deref.result.now c.one.result
    c.requires.inside c.requires.count swept changed one c.in_ok-uses.ensures.at c.in_ok-uses.ensures.named c.in_ok-uses.ensures.in_ring
