use Rattle.std.proofs.Common.{ℕ, List, length, subst}
use Rattle.word_sums.specs.Terms.{coefficient_of}
use Rattle.word_sums.specs.Sums.{IsSumOf}
use Rattle.column_order.specs.Columns.{ColumnList}
use Rattle.relation_list.specs.Values.{value_of}
use Rattle.echelon.specs.Lists.{entries_of, lead_at, row_at}
use Rattle.table_model.specs.Conversion.{IsTable, IsTableSum}
use Rattle.table_model.specs.Complete.{IsPolynomial}
use Rattle.word_forms.specs.Forms.{AreForms}
use Rattle.share_check.proofs.WhatIsTold.{same_table_sum, same_polynomial}
use Rattle.share_check.proofs.missing.rest_of.Goals as goal

pub returns-clause-polynomial : goal.returns-clause-polynomial
returns-clause-polynomial g c = λ rows forms table_sum.
    let t = c.args.table.now in
    let m = g.R.Ring.modulus t.ring in
    let value = g.R.Ring.value t.ring in
    let sum = c.in_ok-sum.sum in
    let rest = c.in_ok-rest.rest in
    let made : IsSumOf g.R.Ring.zero (g.R.Ring.has t.ring) value m (value_of m c.args.name.now) sum =
    subst (λ r. IsSumOf g.R.Ring.zero (g.R.Ring.has r) (g.R.Ring.value r) (g.R.Ring.modulus r) (value_of (g.R.Ring.modulus r) c.args.name.now) sum)
    c.requires.kept_ring c.in_ok-sum.ensures.value in
    let Says = λ (u : g.row.R.Denot) (cs : ColumnList).
    (rows : List (List (ℕ × g.row.R-Elem.Denot))) → IsTable (g.R.Ring.modulus u) cs
    → AreForms (g.R.Ring.modulus u) (g.R.Ring.has u) (g.R.Ring.value u) cs rows c.args.forms.now.forms
    → IsTableSum (g.R.Ring.modulus u) cs (coefficient_of (g.R.Ring.value u) sum)
    → IsPolynomial (g.R.Ring.modulus u) cs (length rows) (lead_at rows) (row_at (g.R.Ring.value u) rows) (coefficient_of (g.R.Ring.value u) sum)
    (entries_of (g.R.Ring.value u) rest) in
    let told : Says t.ring t.columns =
    subst (λ cs. Says t.ring cs) c.columns.ensures.columns
    (subst (λ u. Says u c.columns.result.now) c.requires.forms_ring c.in_ok-rest.ensures.polynomial) in
    same_polynomial m t.columns (coefficient_of value sum) (value_of m c.args.name.now) made.coefficients (length rows) (lead_at rows) (row_at value rows)
    (entries_of value rest)
    (told rows c.columns.ensures.table forms
    (same_table_sum m t.columns (coefficient_of value sum) (value_of m c.args.name.now) made.coefficients table_sum))
