use Rattle.std.proofs.Common.{◌≡◌, ◌<◌, [], length, get_or, inl, inr, sym, ◌∙◌, ap, subst, arith, below_more, rules}
use Rattle.std.proofs.lemmas.List.{get_or_default}
use Rattle.echelon.specs.Lists.{entries_of, lead_of, lead_at}
use Rattle.echelon.proofs.FoundRows.{nonzero}
use Rattle.echelon.proofs.Leads.{true_or_false, lead_of-first}
use Rattle.echelon.proofs.RowLemmas.{entry_at_lead}
use Rattle.echelon.proofs.offering.is_forward_row.Goals as goal

pub returns-then-value-ne1-clause-not_forward : goal.returns-then-value-ne1-clause-not_forward
returns-then-value-ne1-clause-not_forward g c =
    let ring = c.args.ring.now in
    let value = g.R.Ring.value ring in
    let same : c.entries-entries.result.now ≡ c.args.row.now = c.entries-entries.ensures.entries in
    let some : 0 < length c.entries-entries.result.now = search rules in
    let lead : entries_of value c.args.row.now (lead_of c.args.row.now) ≡ value (get_or c.entries-entries.result.now 0 c.index-entries-0.result).1 =
    entry_at_lead value g.R.Ring.zero c.args.row.now c.index-entries-0.result c.entries-entries.ensures.row (subst (λ es. 0 < length es) same some)
    ∙ ap (λ es. value (get_or es 0 c.index-entries-0.result).1) (sym same) in
    λ _. inr (inr (inl (λ one. absurd (omega (arith, lead, one, c.value.ensures)))))

pub returns-then-not-is_zero-clause-not_forward : goal.returns-then-not-is_zero-clause-not_forward
returns-then-not-is_zero-clause-not_forward g c =
    let ring = c.args.ring.now in
    let value = g.R.Ring.value ring in
    let inside : c.loop-i.i < length c.args.rows.now = omega (arith, c.loop-i-test.true) in
    let row_is : c.index-rows-i.result ≡ get_or c.args.rows.now c.loop-i.i [] =
    c.index-rows-i.is ∙ get_or_default c.args.rows.now c.loop-i.i c.index-rows-i.result [] inside in
    let some : 0 < length c.entries-earlier.result.now =
    subst (λ es. 0 < length es) (sym (c.entries-earlier.ensures.entries ∙ row_is)) (c.requires.some c.loop-i.i inside) in
    let column : (get_or c.entries-earlier.result.now 0 c.index-earlier-0.result).0 ≡ lead_at c.args.rows.now c.loop-i.i =
    lead_of-first c.entries-earlier.result.now c.index-earlier-0.result some ∙ ap lead_of (c.entries-earlier.ensures.entries ∙ row_is) in
    let entry : value c.entry.result ≡ entries_of value c.args.row.now (lead_at c.args.rows.now c.loop-i.i) =
    c.entry.ensures.value ∙ ap (entries_of value c.args.row.now) column in
    λ _. inr (inr (inr (
      c.loop-i.i,
      inside,
      λ none.
          nonzero (g.R.Ring.modulus ring) (g.R.Ring.has ring) value g.R.Ring.zero (g.met.R.Ring.has_zero ring) (g.met.R.Ring.value_zero ring)
          (g.met.R.Ring.value_injective ring) (g.met.R.Ring.value_below ring) (g.met.R.Ring.modulus_from ring) c.entry.result c.entry.ensures.has
          (λ e. true_or_false c.is_zero.result (c.is_zero.ensures.1 e) c.if-not-is_zero.true) (entry ∙ none),
    )))

pub loop-i-preserved : goal.loop-i-preserved
loop-i-preserved g c =
    let ring = c.args.ring.now in
    let value = g.R.Ring.value ring in
    let inside : c.loop-i.i < length c.args.rows.now = omega (arith, c.loop-i-test.true) in
    let row_is : c.index-rows-i.result ≡ get_or c.args.rows.now c.loop-i.i [] =
    c.index-rows-i.is ∙ get_or_default c.args.rows.now c.loop-i.i c.index-rows-i.result [] inside in
    let some : 0 < length c.entries-earlier.result.now =
    subst (λ es. 0 < length es) (sym (c.entries-earlier.ensures.entries ∙ row_is)) (c.requires.some c.loop-i.i inside) in
    let column : (get_or c.entries-earlier.result.now 0 c.index-earlier-0.result).0 ≡ lead_at c.args.rows.now c.loop-i.i =
    lead_of-first c.entries-earlier.result.now c.index-earlier-0.result some ∙ ap lead_of (c.entries-earlier.ensures.entries ∙ row_is) in
    below_more (λ k. entries_of value c.args.row.now (lead_at c.args.rows.now k) ≡ 0) _ c.loop-i.invariant
    (sym (c.entry.ensures.value ∙ ap (entries_of value c.args.row.now) column) ∙ ap value (c.is_zero.ensures.0 c.if-not-is_zero.false)
    ∙ g.met.R.Ring.value_zero ring)

pub returns-clause-forward : goal.returns-clause-forward
returns-clause-forward g c =
    let ring = c.args.ring.now in
    let value = g.R.Ring.value ring in
    let same : c.entries-entries.result.now ≡ c.args.row.now = c.entries-entries.ensures.entries in
    let some : 0 < length c.entries-entries.result.now = search rules in
    let some_row : 0 < length c.args.row.now = subst (λ es. 0 < length es) same some in
    let lead : entries_of value c.args.row.now (lead_of c.args.row.now) ≡ value (get_or c.entries-entries.result.now 0 c.index-entries-0.result).1 =
    entry_at_lead value g.R.Ring.zero c.args.row.now c.index-entries-0.result c.entries-entries.ensures.row some_row
    ∙ ap (λ es. value (get_or es 0 c.index-entries-0.result).1) (sym same) in
    λ _. record {
      number = omega arith;
      some = some_row;
      is_row = c.entries-entries.ensures.row;
      one = omega (arith, lead, c.value.ensures, c.if-value-ne1.false);
      clear = λ i h. c.loop-i.invariant i (omega (arith, c.loop-i-test.false));
    }
