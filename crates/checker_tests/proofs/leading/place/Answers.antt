use Rattle.std.proofs.Common.{◌≡◌, ap, sym, ◌∙◌, arith}
use Rattle.column_order.specs.declared.ranks.Preference.{Preference}
use Rattle.column_order.specs.Columns.{ColumnList}
use Rattle.checker_tests.proofs.leading.place.Goals as goal

pub product_lead-requires-clause-lower : goal.product_lead-requires-clause-lower
product_lead-requires-clause-lower c =
    let low = c.args.low.now.table.columns.preference in
    let high = c.args.high.now.table.columns.preference in
    let lower : c.preference.result.now ≡ low = c.preference.ensures ∙ ap (λ (cs : ColumnList). cs.preference) c.columns-lower.ensures.columns in
    let higher : c.preference-2.result.now ≡ high = c.preference-2.ensures ∙ ap (λ (cs : ColumnList). cs.preference) c.columns-higher.ensures.columns in
    let first = c.is_plain.ensures in
    let second = c.is_plain-2.ensures in
    let mode : low.mode ≡ high.mode =
    sym (ap (λ (p : Preference). p.mode) lower) ∙ first.mode c.if-not-is_plain.false ∙ sym (second.mode c.if-not-is_plain-2.false)
    ∙ ap (λ (p : Preference). p.mode) higher in
    let words : low.words ≡ high.words =
    sym (ap (λ (p : Preference). p.words) lower) ∙ first.words c.if-not-is_plain.false ∙ sym (second.words c.if-not-is_plain-2.false)
    ∙ ap (λ (p : Preference). p.words) higher in
    record {
      order = λ i. record { mode = mode i; words = words i };
      least = omega (arith, c.if-weight-lt3.false, c.weight.ensures.weight, ap (λ (cs : ColumnList). cs.weight) c.columns-lower.ensures.columns);
      most = omega (
        arith,
        c.if-weight.false,
        c.weight-else-weight-lt3.ensures.weight,
        c.weight-else-weight-lt3-2.ensures.weight,
        ap (λ (cs : ColumnList). cs.weight) c.columns-lower.ensures.columns,
        ap (λ (cs : ColumnList). cs.weight) c.columns-higher.ensures.columns,
      );
    }
