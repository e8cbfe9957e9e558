use Rattle.std.proofs.Common.{◌≡◌, ℕ, ◌+◌, ◌<◌, [], length, get_or, ◌∙◌, subst, arith, rules, below_more}
use Rattle.std.proofs.lemmas.List.{get_or_default}
use Rattle.sparse_rows.specs.Entries.{IsBelow}
use Rattle.sparse_rows.proofs.EntryLemmas as entries
use Rattle.echelon.specs.Inner.{IsReducedAt}
use Rattle.echelon.proofs.ReducedPlaces.{place_below, list_of_places}
use Rattle.echelon.proofs.reduced_rows.reduced_width.Goals as goal

pub loop-i-preserved : goal.loop-i-preserved
loop-i-preserved g c =
    let ring = c.args.ring.now in
    let value = g.R.Ring.value ring in
    let rows = c.args.rows.now in
    let i = c.loop-i.i in
    let inside : i < length rows = omega (arith, c.loop-i-test.true) in
    let row_is : c.index-rows-i.result ≡ get_or rows i [] = c.index-rows-i.is ∙ get_or_default rows i c.index-rows-i.result [] inside in
    let at : IsReducedAt value g.R.Ring.zero rows i = c.fits_at.ensures.reduced (search rules) in
    let each : (k : ℕ) → k < i + 1 → IsReducedAt value g.R.Ring.zero rows k =
    below_more (λ k. IsReducedAt value g.R.Ring.zero rows k) i c.loop-i.invariant.each at in
    let here : IsBelow (λ q. q) c.greater-columns.result (get_or rows i []) =
    entries.below_more (λ q. q) c.width_of.result c.greater-columns.result (get_or rows i []) c.greater-columns.ensures.b
    (subst (IsBelow (λ q. q) c.width_of.result) row_is c.width_of.ensures.below) in
    record {
      few = c.greater-columns.ensures.few;
      place = omega (
        arith,
        place_below (g.R.Ring.modulus ring) (g.R.Ring.has ring) value g.R.Ring.zero rows (i + 1) each i c.greater-columns.result
            (omega arith) here,
        c.greater-columns.ensures.few,
      );
      each = each;
      below = below_more (λ k. IsBelow (λ q. q) c.greater-columns.result (get_or rows k [])) i
          (λ k l. entries.below_more (λ q. q) c.loop-i.columns c.greater-columns.result (get_or rows k []) c.greater-columns.ensures.a
          (c.loop-i.invariant.below k l)) here;
    }

pub returns-clause-ok : goal.returns-clause-ok
returns-clause-ok g c =
    let ring = c.args.ring.now in
    let all : c.loop-i.i ≡ length c.args.rows.now = search rules in
    list_of_places (g.R.Ring.modulus ring) (g.R.Ring.has ring)
    (g.R.Ring.value ring) g.R.Ring.zero c.args.rows.now c.loop-i.i c.loop-i.invariant.each c.loop-i.columns all c.loop-i.invariant.few
    c.loop-i.invariant.place c.loop-i.invariant.below c.requires
