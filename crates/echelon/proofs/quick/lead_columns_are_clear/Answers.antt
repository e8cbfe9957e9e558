use Rattle.std.proofs.Common.{◌≡◌, ◌<◌, [], ◌∷◌, length, get_or, inl, inr, sym, ◌∙◌, subst, arith, rules}
use Rattle.std.proofs.lemmas.Bool.{cases_eq}
use Rattle.std.proofs.lemmas.List.{get_or_default}
use Rattle.echelon.specs.Lists.{row_at, lead_at}
use Rattle.echelon.proofs.QuickPlaces.{clear_row}
use Rattle.echelon.proofs.quick.lead_columns_are_clear.Goals as goal

pub loop-i-preserved : goal.loop-i-preserved
loop-i-preserved g c = λ value j l k h ne.
    let rows = c.args.rows.now in
    let i = c.loop-i.i in
    let inside : i < length rows = omega (arith, c.loop-i-test.true) in
    let row_is : get_or rows i [] ≡ c.in-Some.field-0-0.now ∷ c.in-Some.behind.now =
    sym (c.entries-entries.ensures.entries ∙ c.index-rows-i.is ∙ get_or_default rows i c.index-rows-i.result [] inside) ∙ c.in-Some.ensures.cases.0 in
    elim (cases_eq j i) [
      | inl e ↦
          subst (λ x. row_at value rows x (lead_at rows k) ≡ 0) (sym e)
          (clear_row rows c.requires.rising value i c.in-Some.field-0-0.now c.in-Some.behind.now inside row_is
          (c.has_no_lead.ensures.none (search rules) value) k h (λ s. ne (s ∙ sym e)))
      | inr other ↦ c.loop-i.invariant value j (omega arith) k h ne
    ]
