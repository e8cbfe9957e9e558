use Rattle.std.proofs.Common.{length, refl, sym, ap, subst, ◌∙◌}
use Rattle.lyndon_words.specs.Monomials.{product_of}
use Rattle.echelon.specs.Lists.{row_at, lead_at}
use Rattle.table_model.specs.Conversion.{IsTable}
use Rattle.table_model.specs.ListedSpan.{values_of, count_of}
use Rattle.table_model.specs.Complete.{IsComplete}
use Rattle.table_model.proofs.CompleteRows.{complete_is_reduced_rows}
use Rattle.table_checker.specs.CheckedTables.{leading_monomial}
use Rattle.table_checker.proofs.ProductPlaces.{leading_monomial-at, leads_there}
use Rattle.table_checker.proofs.leading.product_lead.Goals as goal

pub unreachable-requires : goal.unreachable-requires
unreachable-requires g c =
    let low = c.args.low.now in
    let high = c.args.high.now in
    let m = g.R.Ring.modulus high.table.ring in
    let low_rows = row_at (g.R.Ring.value low.table.ring) low.rows.rows in
    let high_rows = row_at (g.R.Ring.value high.table.ring) high.rows.rows in
    let q = c.args.q.now in
    let p = leading_monomial low.table.columns low.rows.rows c.args.i in
    let small = c.requires.low_complete in
    let large = c.requires.high_complete in
    let whole = large.complete in
    let low_table = subst (λ k. IsTable k low.table.columns) c.requires.modulus c.columns-columns.ensures.table in
    let low_complete = subst (λ k. IsComplete k low.table.columns (length low.rows.rows) (lead_at low.rows.rows) low_rows small.combinations)
    c.requires.modulus small.complete in
    let leads = c.leading_products.ensures.complete m low.table.columns high.table.columns low_table c.columns.ensures.table c.requires.lower
    (length low.rows.rows) (length high.rows.rows) (lead_at low.rows.rows) (lead_at high.rows.rows) low_rows high_rows small.combinations
    large.combinations low_complete whole p q (c.args.i, c.requires.row, refl) c.requires.cofactor in
    let is = leading_monomial-at low.table.columns c.columns-columns.result.now c.columns-columns.ensures.columns low.rows.rows c.args.i
    c.lead_column.result c.lead_column.ensures c.at-p.result.now c.at-p.ensures.at in
    c.in-None.ensures leads.0 leads.1
    (leads_there m high.table.columns c.columns.result.now c.columns.ensures.table c.columns.ensures.columns (product_of p q)
    (product_of c.at-p.result.now q) c.product_column-col.result c.product_column-col.ensures (ap (λ x. product_of x q) (sym is))
    (length high.rows.rows) (lead_at high.rows.rows) high_rows whole.reduced whole.over leads.0 leads.1 leads.2)

pub returns-clause-lead : goal.returns-clause-lead
returns-clause-lead g c =
    let low = c.args.low.now in
    let high = c.args.high.now in
    let q = c.args.q.now in
    let p = c.at-p.result.now in
    let is = leading_monomial-at low.table.columns c.columns-columns.result.now c.columns-columns.ensures.columns low.rows.rows c.args.i
    c.lead_column.result c.lead_column.ensures p c.at-p.ensures.at in
    leading_monomial-at high.table.columns c.columns.result.now c.columns.ensures.columns high.rows.rows c.in-Some.j c.product_column-col.result
    (sym c.in-Some.ensures.1) (product_of p q) c.product_column-col.ensures
    ∙ ap (λ x. product_of x q) (sym is)

pub returns-clause-only : goal.returns-clause-only
returns-clause-only g c j l holds =
    let low = c.args.low.now in
    let high = c.args.high.now in
    let m = g.R.Ring.modulus high.table.ring in
    let columns = high.table.columns in
    let high_rows = row_at (g.R.Ring.value high.table.ring) high.rows.rows in
    let large = c.requires.high_complete in
    let reduced = complete_is_reduced_rows m columns c.columns.ensures.table (length high.rows.rows) (lead_at high.rows.rows) high_rows
    large.combinations large.complete in
    c.leading_products.ensures.one_row m columns c.columns.ensures.table (values_of m columns) (count_of columns) (length high.rows.rows)
    (lead_at high.rows.rows) high_rows reduced j c.in-Some.j l c.in-Some.ensures.0 (holds ∙ sym (returns-clause-lead g c))
