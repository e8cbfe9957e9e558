use Rattle.std.proofs.Common.{◌≡◌, ◌≢◌, ◌<◌, ◌≤◌, length, sym, ap, subst, ◌∙◌, arith}
use Rattle.std.proofs.lemmas.Bool.{eqb-true, eqb-false}
use Rattle.column_order.specs.Columns.{ColumnList, column_count}
use Rattle.relation_list.specs.Values.{value_of}
use Rattle.echelon.specs.Lists.{entries_of, lead_at, row_at}
use Rattle.page_rows.specs.Written.{written}
use Rattle.table_model.specs.Conversion.{IsTable, IsTableSum}
use Rattle.table_model.specs.ListedSpan.{values_of}
use Rattle.table_model.specs.Complete.{IsPolynomial}
use Rattle.table_model.proofs.CompleteRows.{listed_value-table}
use Rattle.share_model.specs.Dealing.{LeavesNothingOfShare}
use Rattle.share_check.proofs.FirstPlaces.{each_more}
use Rattle.share_check.proofs.ListedNames.{listed_is_name, names_few, names_counted, listed_value-name}
use Rattle.share_check.proofs.RowsLeft.{nothing-left}
use Rattle.share_check.proofs.WhatIsTold.{told}
use Rattle.share_check.proofs.missing.first_missing.Goals as goal

pub overflow_cast-number : goal.overflow_cast-number
overflow_cast-number g c =
    let columns = c.args.table.now.columns in
    let table : IsTable (g.R.Ring.modulus c.args.table.now.ring) columns = c.columns-columns.ensures.table in
    let limits = table.limits in
    let few : column_count columns.weight columns.depth ≤ 2048 =
    subst (λ (cs : ColumnList). column_count cs.weight cs.depth ≤ 2048) c.columns-columns.ensures.columns (omega (
      arith,
      c.len-few.ensures.count,
      c.len-few.ensures.within,
    )) in
    let small = names_few columns.weight columns.depth c.args.names.now c.requires.listed limits.least limits.most few in
    omega (arith, small, c.loop-n-test.true)

pub rest_of-requires-clause-is_name : goal.rest_of-requires-clause-is_name
rest_of-requires-clause-is_name g c =
    let columns = c.args.table.now.columns in
    let table : IsTable (g.R.Ring.modulus c.args.table.now.ring) columns = c.columns-columns.ensures.table in
    let limits = table.limits in
    listed_is_name columns.weight columns.depth c.loop-n.n c.args.names.now c.index-names-n.result limits.most c.requires.listed c.loop-n-test.true
    c.index-names-n.is

pub returns-then-not-is_empty : goal.returns-then-not-is_empty
returns-then-not-is_empty g c =
    let ring = c.args.table.now.ring in
    let r = g.met.R.Ring in
    let m = g.R.Ring.modulus ring in
    let value = g.R.Ring.value ring in
    let columns = c.args.table.now.columns in
    let rows = c.args.list.now.rows in
    let rest = c.in_ok-rest.rest in
    let n = c.loop-n.n in
    let pos : 0 < m = omega (arith, r.modulus_from ring) in
    let names = c.args.names.now in
    let name = c.index-names-n.result in
    let same : values_of m columns n ≡ value_of m name =
    listed_value-name m columns names n name c.requires.listed c.loop-n-test.true c.index-names-n.is in
    let sum : IsTableSum m columns (value_of m name) =
    subst (IsTableSum m columns) same (listed_value-table m columns c.columns-columns.ensures.table n) in
    let polynomial = subst (λ s. IsPolynomial m columns (length rows) (lead_at rows) (row_at value rows) s (entries_of value rest)) (sym same)
    (c.in_ok-rest.ensures.polynomial rows c.in_ok-forms.ensures.forms sum) in
    let other : length c.entries.result.now ≢ 0 = eqb-false (length c.entries.result.now) 0 (sym c.is_empty.ensures ∙ c.if-not-is_empty.true) in
    let some : 0 < length rest = omega (arith, other, ap length c.entries.ensures.entries) in
    told value m (g.R.Ring.has ring) g.R.Ring.zero pos (r.has_zero ring) (r.value_zero ring) (r.value_below ring) (r.value_injective ring) columns
    c.args.id.index c.args.id.of (length rows) (lead_at rows) (row_at value rows) n rest polynomial c.in_ok-pairs.pairs
    (c.in_ok-pairs.ensures.written ∙ ap (λ x. written (g.R.Ring.value x) rest) c.ring-then-not-is_empty.ensures)
    (omega (arith, c.loop-n-test.true, names_counted columns names c.requires.listed)) (c.is_in_share.ensures.0 c.if-not-is_in_share.false)
    c.loop-n.invariant.earlier some c.in_ok-rest.ensures.row c.in_ok-rest.ensures.in_ring c.in_ok-rest.ensures.below

pub loop-n-preserved : goal.loop-n-preserved
loop-n-preserved g c =
    let ring = c.args.table.now.ring in
    let m = g.R.Ring.modulus ring in
    let value = g.R.Ring.value ring in
    let columns = c.args.table.now.columns in
    let rows = c.args.list.now.rows in
    let rest = c.in_ok-rest.rest in
    let n = c.loop-n.n in
    let names = c.args.names.now in
    let name = c.index-names-n.result in
    let same : values_of m columns n ≡ value_of m name =
    listed_value-name m columns names n name c.requires.listed c.loop-n-test.true c.index-names-n.is in
    let sum : IsTableSum m columns (value_of m name) =
    subst (IsTableSum m columns) same (listed_value-table m columns c.columns-columns.ensures.table n) in
    let polynomial = subst (λ s. IsPolynomial m columns (length rows) (lead_at rows) (row_at value rows) s (entries_of value rest)) (sym same)
    (c.in_ok-rest.ensures.polynomial rows c.in_ok-forms.ensures.forms sum) in
    let empty : length c.entries.result.now ≡ 0 = eqb-true (length c.entries.result.now) 0 (sym c.is_empty.ensures ∙ c.if-not-is_empty.false) in
    let none : length rest ≡ 0 = omega (arith, empty, ap length c.entries.ensures.entries) in
    record {
      same_ring = c.in_ok-rest.ensures.keeps_ring ∙ c.loop-n.invariant.same_ring;
      earlier = each_more (LeavesNothingOfShare m columns c.args.id.index c.args.id.of (length rows) (lead_at rows) (row_at value rows)) n
          c.loop-n.invariant.earlier
          (λ inside. nothing-left value m columns c.columns-columns.ensures.table c.columns-columns.ensures.converts rows c.requires.reduced n rest
          polynomial none);
    }

pub returns : goal.returns
returns g c = λ n l.
    c.loop-n.invariant.earlier n
    (omega (arith, l, c.loop-n.auto.n-end, c.loop-n-test.false, names_counted c.args.table.now.columns c.args.names.now c.requires.listed))
