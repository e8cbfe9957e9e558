use Rattle.std.proofs.Common.{◌≡◌, ℕ, ◌<◌, ◌≤◌, length, sym, ap, subst, ◌∙◌, arith}
use Rattle.column_order.specs.Columns.{ColumnList, column_count}
use Rattle.echelon.specs.Lists.{entries_of, lead_at, row_at}
use Rattle.table_model.specs.Conversion.{IsTable}
use Rattle.table_model.specs.Complete.{IsPolynomial}
use Rattle.table_model.specs.Faults.{LeavesNothing}
use Rattle.cert_checker.proofs.RowsAtHand.{each-more}
use Rattle.cert_checker.proofs.MadeValues.{listed-value}
use Rattle.cert_checker.proofs.Evaluated.{count-listed}
use Rattle.cert_checker.proofs.WhatIsLeft.{listed-name, few-names, nothing-left, something-left, left-below}
use Rattle.cert_checker.proofs.leaving.first_missing.Goals as goal

pub rest_of-requires-clause-is_name : goal.rest_of-requires-clause-is_name
rest_of-requires-clause-is_name g c =
    let columns = c.args.table.now.columns in
    let table : IsTable (g.R.Ring.modulus c.args.table.now.ring) columns = c.columns-columns.ensures.table in
    let limits = table.limits in
    (listed-name columns.weight columns.depth c.loop-n.n c.args.names.now c.index-names-n.result limits.most c.requires.listed c.loop-n-test.true
    c.index-names-n.is).0

pub rest_of-requires-clause-weight : goal.rest_of-requires-clause-weight
rest_of-requires-clause-weight g c =
    let columns = c.args.table.now.columns in
    let table : IsTable (g.R.Ring.modulus c.args.table.now.ring) columns = c.columns-columns.ensures.table in
    let limits = table.limits in
    (listed-name columns.weight columns.depth c.loop-n.n c.args.names.now c.index-names-n.result limits.most c.requires.listed c.loop-n-test.true
    c.index-names-n.is).1

pub rest_of-requires-clause-depth : goal.rest_of-requires-clause-depth
rest_of-requires-clause-depth g c =
    let columns = c.args.table.now.columns in
    let table : IsTable (g.R.Ring.modulus c.args.table.now.ring) columns = c.columns-columns.ensures.table in
    let limits = table.limits in
    (listed-name columns.weight columns.depth c.loop-n.n c.args.names.now c.index-names-n.result limits.most c.requires.listed c.loop-n-test.true
    c.index-names-n.is).2

pub overflow_cast-result : goal.overflow_cast-result
overflow_cast-result g c =
    let columns = c.args.table.now.columns in
    let table : IsTable (g.R.Ring.modulus c.args.table.now.ring) columns = c.columns-columns.ensures.table in
    let limits = table.limits in
    let few : column_count columns.weight columns.depth ≤ 2048 =
    subst (λ (cs : ColumnList). column_count cs.weight cs.depth ≤ 2048) c.columns-columns.ensures.columns (omega (
      arith,
      c.len-few.ensures.count,
      c.len-few.ensures.within,
    )) in
    let small = few-names columns.weight columns.depth c.args.names.now c.requires.listed limits.least limits.most few in
    omega (arith, small, c.loop-n-test.true)

pub returns-then-entries-gt0 : goal.returns-then-entries-gt0
returns-then-entries-gt0 g c =
    let ring = c.args.table.now.ring in
    let r = g.met.R.Ring in
    let m = g.R.Ring.modulus ring in
    let value = g.R.Ring.value ring in
    let columns = c.args.table.now.columns in
    let rows = c.args.list.now.rows in
    let rest = c.in_ok-rest.rest in
    let n = c.loop-n.n in
    let pos : 0 < m = omega (arith, r.modulus_from ring) in
    let some : 0 < length rest = omega (arith, c.if-entries-gt0.true, ap length c.entries.ensures.entries) in
    let is = subst (λ s. IsPolynomial m columns (length rows) (lead_at rows) (row_at value rows) s (entries_of value rest))
    (sym (listed-value m columns c.args.names.now n c.index-names-n.result c.requires.listed c.loop-n-test.true c.index-names-n.is))
    c.in_ok-rest.ensures.polynomial in
    record {
      first = record {
        below = omega (arith, c.loop-n-test.true, count-listed columns c.args.names.now c.requires.listed);
        lacks = something-left value m (g.R.Ring.has ring) g.R.Ring.zero pos (r.has_zero ring) (r.value_zero ring) (r.value_below ring) (r.value_injective ring)
            columns c.columns-columns.ensures.table c.columns-columns.ensures.converts rows c.in_ok-rest.ensures.reduced n rest is some
            c.in_ok-rest.ensures.row c.in_ok-rest.ensures.in_ring;
        earlier = c.loop-n.invariant.earlier;
      };
      polynomial = is;
      is_row = c.in_ok-rest.ensures.row;
      below = left-below value m (g.R.Ring.has ring) g.R.Ring.zero pos (r.has_zero ring) (r.value_zero ring) (r.value_below ring) (r.value_injective ring)
          columns c.columns-columns.ensures.table c.columns-columns.ensures.converts rows c.in_ok-rest.ensures.reduced n rest is c.requires.below
          c.in_ok-rest.ensures.row c.in_ok-rest.ensures.in_ring;
      in_ring = c.in_ok-rest.ensures.in_ring;
    }

pub loop-n-preserved : goal.loop-n-preserved
loop-n-preserved g c =
    let ring = c.args.table.now.ring in
    let r = g.met.R.Ring in
    let m = g.R.Ring.modulus ring in
    let value = g.R.Ring.value ring in
    let columns = c.args.table.now.columns in
    let rows = c.args.list.now.rows in
    let rest = c.in_ok-rest.rest in
    let n = c.loop-n.n in
    let pos : 0 < m = omega (arith, r.modulus_from ring) in
    let none : length rest ≡ 0 = omega (arith, c.if-entries-gt0.false, ap length c.entries.ensures.entries) in
    let is = subst (λ s. IsPolynomial m columns (length rows) (lead_at rows) (row_at value rows) s (entries_of value rest))
    (sym (listed-value m columns c.args.names.now n c.index-names-n.result c.requires.listed c.loop-n-test.true c.index-names-n.is))
    c.in_ok-rest.ensures.polynomial in
    record {
      same_ring = c.in_ok-rest.ensures.keeps_ring ∙ c.loop-n.invariant.same_ring;
      earlier = each-more (λ (k : ℕ). LeavesNothing m columns (length rows) (lead_at rows) (row_at value rows) k) n c.loop-n.invariant.earlier
          (nothing-left value m (g.R.Ring.has ring) g.R.Ring.zero pos (r.has_zero ring) (r.value_zero ring) (r.value_below ring) (r.value_injective ring)
          columns c.columns-columns.ensures.table c.columns-columns.ensures.converts rows c.in_ok-rest.ensures.reduced n rest is none);
    }

pub returns : goal.returns
returns g c = λ n l.
    c.loop-n.invariant.earlier n
    (omega (arith, l, c.loop-n.auto.n-end, c.loop-n-test.false, count-listed c.args.table.now.columns c.args.names.now c.requires.listed))
