use Rattle.std.proofs.Common.{◌≡◌, ◌+◌, ◌-◌, ◌/◌, ◌<◌, [], length, inl, inr, sym, ◌∙◌, ap, subst, arith}
use Rattle.std.proofs.lemmas.Bool.{cases_eq}
use Rattle.std.proofs.lemmas.List.{get_or_default}
use Rattle.echelon.specs.Lists.{lead_of, lead_at}
use Rattle.echelon.proofs.remainder.place_at.Goals as goal

pub loop-low-preserved-then-lead-column-2 : goal.loop-low-preserved-then-lead-column-2
loop-low-preserved-then-lead-column-2 g c =
    let rows = c.args.rows.now in
    let middle = c.loop-low.low + (c.loop-low.high - c.loop-low.low) / 2 in
    let within : middle < c.loop-low.high = omega (arith, c.loop-low-test.true) in
    let inside : middle < length rows = omega (arith, within, c.loop-low.invariant.within) in
    let lead : c.lead_column-lead.result ≡ lead_at rows middle =
    c.lead_column-lead.ensures ∙ ap lead_of (c.index-rows-middle.is ∙ get_or_default rows middle c.index-rows-middle.result [] inside) in
    let less : lead_at rows middle < c.args.column = omega (arith, lead, c.if-lead-column-2.true) in
    record {
      within = c.loop-low.invariant.within;
      order = omega (arith, within);
      early = λ i l. elim (cases_eq i middle) [
        | inl e ↦ subst (λ x. lead_at rows x < c.args.column) (sym e) less
        | inr ne ↦ let up : lead_at rows i < lead_at rows middle = c.requires.rising i middle (omega arith) inside in omega (arith, up, less)
      ];
      late = c.loop-low.invariant.late;
    }

pub loop-low-preserved : goal.loop-low-preserved
loop-low-preserved g c =
    let rows = c.args.rows.now in
    let middle = c.loop-low.low + (c.loop-low.high - c.loop-low.low) / 2 in
    let within : middle < c.loop-low.high = omega (arith, c.loop-low-test.true) in
    let inside : middle < length rows = omega (arith, within, c.loop-low.invariant.within) in
    let lead : c.lead_column-lead.result ≡ lead_at rows middle =
    c.lead_column-lead.ensures ∙ ap lead_of (c.index-rows-middle.is ∙ get_or_default rows middle c.index-rows-middle.result [] inside) in
    let more : c.args.column < lead_at rows middle = omega (arith, lead, c.if-lead-column.false, c.if-lead-column-2.false) in
    record {
      within = omega (arith, inside);
      order = omega arith;
      early = c.loop-low.invariant.early;
      late = λ i l h. elim (cases_eq i middle) [
        | inl e ↦ subst (λ x. c.args.column < lead_at rows x) (sym e) more
        | inr ne ↦ let up : lead_at rows middle < lead_at rows i = c.requires.rising middle i (omega arith) h in omega (arith, up, more)
      ];
    }
