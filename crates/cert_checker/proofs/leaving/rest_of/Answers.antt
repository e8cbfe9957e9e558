use Rattle.std.proofs.Common.{length, subst}
use Rattle.word_sums.specs.Sums.{IsSumOf}
use Rattle.word_sums.specs.Terms.{coefficient_of}
use Rattle.relation_list.specs.Values.{value_of}
use Rattle.linear_model.specs.Reduced.{IsNormalForm}
use Rattle.echelon.specs.Lists.{entries_of, lead_at, row_at}
use Rattle.cert_checker.proofs.WhatIsLeft.{same-cols, none-out}
use Rattle.cert_checker.proofs.leaving.rest_of.Goals as goal

pub returns-in-Ok-clause-polynomial : goal.returns-in-Ok-clause-polynomial
returns-in-Ok-clause-polynomial g c =
    let t = c.args.table.now in
    let m = g.R.Ring.modulus t.ring in
    let value = g.R.Ring.value t.ring in
    let rows = c.args.list.now.rows in
    let row = c.in-Ok.row in
    let rest = c.in_ok-rest-in-Ok.rest in
    let made = subst (λ r. IsSumOf g.R.Ring.zero (g.R.Ring.has r) (g.R.Ring.value r) (g.R.Ring.modulus r) (value_of (g.R.Ring.modulus r)
    c.args.name.now) c.in_ok-sum.sum)
    c.requires.kept_ring c.in_ok-sum.ensures.value in
    record {
      cols = entries_of value row;
      is_cols = same-cols m t.columns (coefficient_of value c.in_ok-sum.sum) (value_of m c.args.name.now) (entries_of value row) made.coefficients
          c.in-Ok.ensures.cols;
      left = subst (λ r. IsNormalForm (g.R.Ring.modulus r) (length rows) (lead_at rows) (row_at (g.R.Ring.value r) rows) (entries_of (g.R.Ring.value r) row)
          (entries_of (g.R.Ring.value r) rest)) c.ring.ensures c.in_ok-rest-in-Ok.ensures.ok;
    }

pub unreachable-requires : goal.unreachable-requires
unreachable-requires g c =
    let t = c.args.table.now in
    none-out t.columns.weight t.columns.depth c.args.name.now c.in_ok-sum.sum c.in_ok-sum.ensures.words c.requires.weight c.requires.depth
    c.in-Err-OutOfTable.field-0-0 ((c.to_columns.ensures.out_of_table c.in-Err-OutOfTable.field-0-0).0 cc)
